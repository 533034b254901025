use Rattle.std.proofs.Common.{◌≡◌, ◌<◌, ◌+◌, ℕ, length, get_or}
use Rattle.std.specs.Prelude.{All}
use Rattle.health_valves.specs.Valves.{times}
use Rattle.health_valves.proofs.writes.add_one.Given as goal

abbrev pub invariant-loop-place : goal.invariant-loop-place
invariant-loop-place l = record {
  size : length l.counts ≡ length l.fn.counts;
  within : All (λ y. y < length l.counts) l.place-iterator;
  each : (y : ℕ) → get_or l.counts y 0 + times y l.place-iterator ≡ get_or l.fn.counts y 0 + times y l.fn.places;
}
