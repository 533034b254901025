use Rattle.std.proofs.Common.{ℕ, ◌<◌, drop}
use Rattle.std.specs.Prelude.{◌↔◌}
use Rattle.std.specs.List.{AllByRecursion}
use Rattle.check_model.specs.declared.checks.Check.{Check}
use Rattle.health_check.proofs.soundness.are_above.Given as goal

abbrev pub invariant-loop-other : goal.invariant-loop-other
invariant-loop-other l =
    AllByRecursion (λ (other : ℕ × Check). l.id < other.0) (drop l.other-index l.list)
    ↔ AllByRecursion (λ (other : ℕ × Check). l.id < other.0) l.list
