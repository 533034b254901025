use Rattle.std.proofs.Common.{refl}
use Rattle.health_planning.proofs.seats.seat_at.Goals as goal

pub returns : goal.returns
returns c = record { set = refl; group = refl; check = refl }
