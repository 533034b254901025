use Rattle.std.proofs.Common.{arith, ap, sym}
use Rattle.std.proofs.lemmas.List.{get_or_past}
use Rattle.health_planning.proofs.Told.{bare_seat}
use Rattle.health_planning.specs.declared.seats.Seat.{Seat}
use Rattle.health_planning.proofs.grouping.check_at.Goals as goal

pub returns-then-at-seats : goal.returns-then-at-seats
returns-then-at-seats c = sym (ap (λ (s : Seat). s.check) (get_or_past c.args.seats.now c.args.slot bare_seat (omega arith)))
