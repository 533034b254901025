use Rattle.std.proofs.Common.{◌≡◌, ◌↔◌, ◌≤◌, ℕ}
use Rattle.std.specs.List.{Contains}
use Rattle.health_valves.proofs.sharing.is_only.Given as goal

abbrev pub invariant-loop-other : goal.invariant-loop-other
invariant-loop-other l = ((x : ℕ) → l.first ≤ x → Contains l.fn.feeders x → x ≡ l.feeder)
    ↔ ((x : ℕ) → l.first ≤ x → Contains l.other-iterator x → x ≡ l.feeder)
