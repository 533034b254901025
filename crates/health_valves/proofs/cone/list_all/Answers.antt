use Rattle.std.proofs.Common.{◌<◌, length, arith, refl, ◌∙◌, below_more}
use Rattle.std.specs.Prelude.{reverse}
use Rattle.std.proofs.lemmas.List.Sums.{count_by-le-length}
use Rattle.health_valves.specs.Valves.{FedBy}
use Rattle.health_valves.proofs.Marks.{none_many, marked_within}
use Rattle.health_valves.proofs.Turns.{all_in}
use Rattle.health_valves.proofs.Walks.{shallow, none_listed}
use Rattle.health_valves.proofs.cone.list_all.Goals as goal

pub loop-valve-init : goal.loop-valve-init
loop-valve-init c =
    let size = c.requires.size in
    let room = c.requires.room in
    record {
      fills = record {
        as_many = none_many c.args.cone.now.items c.args.marks.now.items c.requires.empty c.requires.unmarked;
        room = omega arith;
      };
      size = refl;
      room = refl;
      marks_room = refl;
      listed = none_listed (FedBy c.args.feeds.now) c.args.cone.now.items c.args.marks.now.items c.requires.empty c.requires.unmarked;
      all = λ y l. absurd (omega arith);
    }

pub visit-requires-clause-shallow : goal.visit-requires-clause-shallow
visit-requires-clause-shallow c ends = shallow (FedBy c.args.feeds.now) 64 _ ends

pub loop-valve-preserved : goal.loop-valve-preserved
loop-valve-preserved c =
    let i = c.loop-valve.invariant in
    let v = c.visit.ensures in
    record {
      fills = v.fills;
      size = v.size ∙ i.size;
      room = v.room ∙ i.room;
      marks_room = v.marks_room ∙ i.marks_room;
      listed = v.listed;
      all = below_more _ _ (λ y l. v.goes_on y (i.all y l)) v.here;
    }

pub returns-clause-few : goal.returns-clause-few
returns-clause-few c =
    let i = c.loop-valve.invariant in
    let many = i.fills.as_many in
    let most = count_by-le-length (λ b. b) c.loop-valve.marks.items in
    let now = i.size in
    let size = c.requires.size in
    omega arith

pub returns-clause-within : goal.returns-clause-within
returns-clause-within c =
    let i = c.loop-valve.invariant in
    let now = i.size in
    let size = c.requires.size in
    all_in (λ y. y < length c.args.feeds.now.fed) (reverse c.loop-valve.cone.items) (λ y k. let b = marked_within c.loop-valve.marks.items y (i.listed.marked y k) in omega arith)
