use Rattle.std.proofs.Common.{ℕ, drop}
use Rattle.std.specs.Prelude.{◌↔◌}
use Rattle.std.specs.List.{AllByRecursion}
use Rattle.check_model.specs.declared.checks.Check.{Check}
use Rattle.check_model.specs.Checks.{AreChildren, children_of}
use Rattle.health_check.proofs.soundness.have_children.Given as goal

abbrev pub invariant-loop-held : goal.invariant-loop-held
invariant-loop-held l =
    AllByRecursion (λ (held : ℕ × Check). AreChildren l.list (children_of held.1))
    (drop l.held-index l.list)
    ↔ AllByRecursion (λ (held : ℕ × Check). AreChildren l.list (children_of held.1)) l.list
