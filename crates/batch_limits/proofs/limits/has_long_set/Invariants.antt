use Rattle.std.proofs.Common.{◌≡◌, ◌<◌, ℕ, length, Some}
use Rattle.std.specs.Prelude.{slice_get}
use Rattle.batch_model.specs.Octets.{set_octets, most_octets}
use Rattle.batch_model.specs.declared.batches.Change.{Change}
use Rattle.batch_limits.proofs.limits.has_long_set.Given as goal

abbrev pub invariant-loop-change : goal.invariant-loop-change
invariant-loop-change l = (j : ℕ) (change : Change) → j < l.change-index
    → slice_get l.changes j ≡ Some change → most_octets < length (set_octets change.set) → ⊥
