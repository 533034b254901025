use Rattle.std.proofs.Common.{◌≡◌, ◌≤◌, ℕ, Some, length}
use Rattle.std.specs.Prelude.{slice_get, vec_capacity, vec_len}
use Rattle.health_index.proofs.valve_numbers.list_numbers.Given as goal

abbrev pub invariant-loop-place : goal.invariant-loop-place
invariant-loop-place l = record {
  within : l.place ≤ l.many;
  size : length l.numbers.items ≡ l.place;
  len : vec_len l.numbers ≡ l.place;
  each : (place valve : ℕ) → slice_get l.numbers.items place ≡ Some valve → valve ≡ place;
  room : vec_capacity l.numbers ≡ vec_capacity l.fn.numbers;
}
