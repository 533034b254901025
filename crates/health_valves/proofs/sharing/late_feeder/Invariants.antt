use Rattle.std.proofs.Common.{◌↔◌, ◌≤◌, ℕ}
use Rattle.std.specs.List.{Contains}
use Rattle.health_valves.proofs.sharing.late_feeder.Given as goal

abbrev pub invariant-loop-feeder : goal.invariant-loop-feeder
invariant-loop-feeder l = (x : ℕ) → l.first ≤ x → Contains l.fn.feeders x ↔ Contains l.feeder-iterator x
