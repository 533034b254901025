use Rattle.std.proofs.Common.{◌≡◌, ◌≤◌, ◌<◌, ℕ, Some}
use Rattle.std.specs.Prelude.{slice_get}
use Rattle.health_index.proofs.valve_numbers.spare_between.Given as goal

abbrev pub invariant-loop-valve : goal.invariant-loop-valve
invariant-loop-valve l = record {
  least : l.from ≤ l.valve;
  none : (valve : ℕ) → l.from ≤ valve → valve < l.valve
      → (place : ℕ) × (slice_get l.numbers place ≡ Some valve);
}
