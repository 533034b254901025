use Rattle.std.proofs.Common.{◌<◌, length, arith}
use Rattle.std.specs.Prelude.{reverse}
use Rattle.health_valves.specs.Valves.{FedBy}
use Rattle.health_valves.proofs.Marks.{none_many, trues_few, marked_within}
use Rattle.health_valves.proofs.Turns.{all_in}
use Rattle.health_valves.proofs.Walks.{all_above, from_none}
use Rattle.health_valves.proofs.cone.list_cone.Goals as goal

pub walk-requires-clause-fills : goal.walk-requires-clause-fills
walk-requires-clause-fills c =
    let size = c.requires.size in
    let room = c.requires.room in
    record {
      as_many = none_many c.args.cone.now.items c.args.marks.now.items c.requires.empty c.requires.unmarked;
      room = omega arith;
    }

pub returns-clause-walk : goal.returns-clause-walk
returns-clause-walk c ends =
    let w = c.walk.ensures in
    let f = FedBy c.args.feeds.now in
    record {
      members = λ y. (
        λ i. from_none c.args.cone.now.items y _ c.requires.empty (w.only y i),
        λ k. all_above f (reverse c.walk.new.cone.items) (w.listed.first ends) k.2.0 k.0 y (w.valves k.0 k.1) k.2.1,
      );
      once = w.listed.once;
      first = w.listed.first ends;
    }

pub returns-clause-few : goal.returns-clause-few
returns-clause-few c nodes h =
    let w = c.walk.ensures in
    let many = w.fills.as_many in
    let few = trues_few nodes c.walk.new.marks.items (λ y m. h y (from_none c.args.cone.now.items y _ c.requires.empty (w.only y (w.listed.listed y m)))) in
    omega arith

pub returns-clause-within : goal.returns-clause-within
returns-clause-within c =
    let w = c.walk.ensures in
    let now = w.size in
    let size = c.requires.size in
    all_in (λ y. y < length c.args.feeds.now.fed) (reverse c.walk.new.cone.items) (λ y i. let b = marked_within c.walk.new.marks.items y (w.listed.marked y i) in omega arith)

pub returns-clause-once : goal.returns-clause-once
returns-clause-once c = c.walk.ensures.listed.once

pub returns-clause-only : goal.returns-clause-only
returns-clause-only c y i = from_none c.args.cone.now.items y _ c.requires.empty (c.walk.ensures.only y i)
