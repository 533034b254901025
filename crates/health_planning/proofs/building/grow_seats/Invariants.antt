use Rattle.std.proofs.Common.{◌≡◌, ◌≤◌, ℕ, length}
use Rattle.std.specs.Prelude.{vec_capacity, vec_len}
use Rattle.health_planning.specs.Building.{TellsAll}
use Rattle.health_planning.proofs.building.grow_seats.Given as goal

abbrev pub invariant-loop-i : goal.invariant-loop-i
invariant-loop-i l = record {
  within : length l.fn.seats.items ≤ l.slots → l._i ≤ l.slots;
  len : vec_len l.seats ≡ l._i;
  size : length l.seats.items ≡ l._i;
  all : (slot : ℕ) → TellsAll l.fn.seats.items l.seats.items slot;
  room : vec_capacity l.seats ≡ vec_capacity l.fn.seats;
}
