use Rattle.std.proofs.Common.{◌≡◌, ◌≤◌, ◌<◌, ◌+◌, ℕ, Some}
use Rattle.std.specs.Prelude.{slice_get}
use Rattle.check_model.specs.declared.checks.Check.{Check}
use Rattle.health_index.proofs.following.agree_behind.Given as goal

abbrev pub invariant-loop-place : goal.invariant-loop-place
invariant-loop-place l = (k : ℕ) (held : ℕ × Check) → l.gone ≤ k → k < l.place
    → slice_get l.list k ≡ Some held → slice_get l.ids (k + 1) ≡ Some held.0
