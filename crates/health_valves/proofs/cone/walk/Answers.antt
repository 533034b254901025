use Rattle.std.proofs.Common.{get_or, arith, sym, inl, inr, ◌∙◌, below_more}
use Rattle.std.proofs.lemmas.List.Elements.{Contains-get_or}
use Rattle.health_valves.specs.Valves.{FedBy}
use Rattle.health_valves.proofs.Marks.{in_place}
use Rattle.health_valves.proofs.Walks.{shallow}
use Rattle.health_valves.proofs.cone.walk.Goals as goal

pub visit-requires-clause-shallow : goal.visit-requires-clause-shallow
visit-requires-clause-shallow c ends = shallow (FedBy c.args.feeds.now) 64 _ ends

pub loop-valve-preserved : goal.loop-valve-preserved
loop-valve-preserved c =
    let i = c.loop-valve.invariant in
    let v = c.visit.ensures in
    let valves = c.args.valves.now in
    let at = c.loop-valve.valve-index in
    record {
      fills = v.fills;
      size = v.size ∙ i.size;
      room = v.room ∙ i.room;
      marks_room = v.marks_room ∙ i.marks_room;
      listed = v.listed;
      valves = below_more _ _ (λ j h. v.goes_on _ (i.valves j h)) v.here;
      goes_on = λ y k. v.goes_on y (i.goes_on y k);
      only = λ y k. elim (v.only y k) [ inl j ↦ i.only y j | inr a ↦ inr (get_or valves at 0, Contains-get_or valves at 0 c.loop-valve-test.true, a) ];
    }

pub returns-clause-valves : goal.returns-clause-valves
returns-clause-valves c y w =
    let b = w.1 in
    let end = c.loop-valve-test.false in
    rw (sym (in_place y c.args.valves.now w)) (c.loop-valve.invariant.valves w.0 (omega arith))
