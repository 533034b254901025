use Rattle.std.proofs.Common.{◌≡◌, ◌≢◌, ◌<◌, ◌⊎◌, ℕ, suc, Some, length}
use Rattle.std.specs.Prelude.{slice_get, vec_capacity}
use Rattle.health_planning.specs.Building.{TellsOn}
use Rattle.health_planning.specs.SetRefRecord.{SetRef}
use Rattle.health_planning.specs.Wired.{group_seat}
use Rattle.health_standing.proofs.unfounding.clear_groups.Given as goal

abbrev pub invariant-loop-set : goal.invariant-loop-set
invariant-loop-set l = record {
  sets : (slot : ℕ) → TellsOn l.fn.seats.items l.seats.items slot;
  either : (slot : ℕ) → group_seat l.fn.seats.items slot ≡ suc l.group
      → (group_seat l.seats.items slot ≡ 0) ⊎ (group_seat l.seats.items slot ≡ suc l.group);
  gone : (k : ℕ) (set : SetRef) → k < l.set-index → slice_get l.noted k ≡ Some set
      → group_seat l.fn.seats.items set.slot ≡ suc l.group → group_seat l.seats.items set.slot ≡ 0;
  groups : (slot : ℕ) → group_seat l.fn.seats.items slot ≢ suc l.group
      → group_seat l.seats.items slot ≡ group_seat l.fn.seats.items slot;
  size : length l.seats.items ≡ length l.fn.seats.items;
  room : vec_capacity l.seats ≡ vec_capacity l.fn.seats;
}
