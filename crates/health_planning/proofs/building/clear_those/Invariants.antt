use Rattle.std.proofs.Common.{◌≡◌, ◌<◌, ℕ, Some, length}
use Rattle.std.specs.Prelude.{slice_get, vec_capacity}
use Rattle.policy_select.specs.SetRefRecord.{SetRef}
use Rattle.health_planning.specs.Building.{IsFree, KeepsCheck}
use Rattle.health_planning.proofs.building.clear_those.Given as goal

abbrev pub invariant-loop-set : goal.invariant-loop-set
invariant-loop-set l = record {
  cleared : (k : ℕ) (set : SetRef) → k < l.set-index → slice_get l.those k ≡ Some set
      → IsFree l.seats.items set.slot;
  free : (slot : ℕ) → IsFree l.fn.seats.items slot → IsFree l.seats.items slot;
  checks : (slot : ℕ) → KeepsCheck l.fn.seats.items l.seats.items slot;
  size : length l.seats.items ≡ length l.fn.seats.items;
  room : vec_capacity l.seats ≡ vec_capacity l.fn.seats;
}
