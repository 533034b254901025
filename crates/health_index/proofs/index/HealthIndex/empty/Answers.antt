use Rattle.std.proofs.Common.{List, arith, refl, ap, length, ◌∙◌, sym}
use Rattle.health_valves.specs.Blueprint.{net_in, no_blueprint, own_in}
use Rattle.health_planning.specs.Wired.{group_seat, seat_of}
use Rattle.health_planning.specs.declared.seats.Seat.{Seat}
use Rattle.health_index.proofs.index.HealthIndex.empty.Goals as goal

pub invariant_of-result : goal.invariant_of-result
invariant_of-result c = record {
  net = net_in no_blueprint;
  own = own_in no_blueprint;
  fits = c.new-6.ensures.fits;
  idle = c.new-6.ensures.idle;
  as_many = ap length c.new-3.ensures.items ∙ sym (ap length c.new.ensures.items);
  apart = λ k n id at also. absurd (grind (arith, at, c.new.ensures.items));
  numbers = record {
    as_many = ap length c.new-2.ensures.items ∙ sym (ap length c.new.ensures.items);
    apart = λ k n id at also. absurd (grind (arith, at, c.new-2.ensures.items));
    early = λ place valve at. absurd (grind (arith, at, c.new-2.ensures.items));
  };
  within = λ place valve at. absurd (grind (arith, at, c.new-2.ensures.items));
  seated = λ slot valve is. absurd (grind (arith, is, c.new-5.ensures.items));
  given = record {
    sets = λ slot some. absurd (some (ap (λ (l : List Seat). seat_of l slot) c.new-5.ensures.items));
    groups = λ slot some. absurd (some (ap (λ (l : List Seat). group_seat l slot) c.new-5.ensures.items));
  };
  alone = λ place valve its is at. absurd (grind (arith, at, c.new-2.ensures.items));
  spare = λ valve is. refl;
}
