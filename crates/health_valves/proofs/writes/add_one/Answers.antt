use Rattle.std.proofs.Common.{◌<◌, ◌+◌, ◌∷◌, length, get_or, length-set, ◌∙◌, sym, ap, refl, arith}
use Rattle.std.proofs.lemmas.List.Elements.{All-head, All-tail}
use Rattle.health_valves.specs.Valves.{times}
use Rattle.health_valves.proofs.Times.{up}
use Rattle.health_valves.proofs.writes.add_one.Goals as goal

pub loop-place-preserved : goal.loop-place-preserved
loop-place-preserved c =
    let i = c.loop-place.invariant in
    let b = All-head (λ y. y < length c.loop-place.counts) c.in-Some.place c.next.new.self (rw c.in-Some.ensures.steps at i.within) in
    record {
      size = length-set _ _ _ ∙ i.size;
      within = λ k d l. rw length-set (All-tail (λ y. y < length c.loop-place.counts) c.in-Some.place c.next.new.self (rw c.in-Some.ensures.steps at i.within) k d l);
      each = λ y. up c.loop-place.counts (c.in-Some.place ∷ c.next.new.self) 0 c.in-Some.place _ y (omega arith) refl b refl
          ∙ ap (λ l. get_or c.loop-place.counts y 0 + times y l) (sym c.in-Some.ensures.steps) ∙ i.each y;
    }
