use Rattle.std.proofs.Common.{◌<◌, ◌-◌, ◌∷◌, length, get_or, length-set, ◌∙◌, ap, refl, arith}
use Rattle.std.proofs.lemmas.List.Elements.{All-head, All-tail}
use Rattle.health_valves.specs.Valves.{times}
use Rattle.health_valves.proofs.Times.{down, ahead}
use Rattle.health_valves.proofs.writes.take_one.Goals as goal

pub loop-place-preserved : goal.loop-place-preserved
loop-place-preserved c =
    let i = c.loop-place.invariant in
    let place = c.in-Some.place in
    let rest = c.next.new.self in
    let b = All-head (λ y. y < length c.loop-place.counts) c.in-Some.place c.next.new.self (rw c.in-Some.ensures.steps at i.within) in
    record {
      size = length-set _ _ _ ∙ i.size;
      within = λ k d l. rw length-set (All-tail (λ y. y < length c.loop-place.counts) c.in-Some.place c.next.new.self (rw c.in-Some.ensures.steps at i.within) k d l);
      each = λ y.
          let e = i.each y in
          let at = i.each c.in-Some.place in
          let more = c.requires.enough c.in-Some.place in
          let next = ahead (c.in-Some.place ∷ c.next.new.self) 0 c.in-Some.place (omega arith) refl in
          let here = ap (times c.in-Some.place) c.in-Some.ensures.steps in
          let there = ap (times y) c.in-Some.ensures.steps in
          let d = down c.loop-place.counts (c.in-Some.place ∷ c.next.new.self) 0 c.in-Some.place (get_or c.loop-place.counts c.in-Some.place 0 - 1) y (omega arith) refl b (omega arith) in
          omega (arith, e, d);
    }
