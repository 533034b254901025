use Rattle.std.proofs.Common.{ap, sym, List, [], length, subst, arith}
use Rattle.octet_region.specs.declared.cells.Cell.{Cell}
use Rattle.octet_region.specs.Shape.{held_in, IsIntact}
use Rattle.octet_region.proofs.region.Region.new.Goals as goal

empty_sound : IsIntact [] 0 0
empty_sound = record {
  shape = record { owner = λ _. 0; rank = λ _. 0; unused = tt; live = λ c e. absurd (omega (arith, e)) };
  full = λ d lt. absurd (omega (arith, lt));
  few = omega arith;
  fits = omega arith;
}

pub invariant_of-result : goal.invariant_of-result
invariant_of-result c = subst (λ (w : List Cell). IsIntact w 0 0) (sym c.new.ensures.items) empty_sound

pub returns : goal.returns
unfolding held_in
returns c =
    λ i. record {
      held = ap held_in c.new.ensures.items i;
      spare = 0;
      cells = ap length c.new.ensures.items
          i;
    }
