use Rattle.std.proofs.Common.{◌≡◌, ◌≤◌, ◌<◌, ℕ}
use Rattle.std.specs.Prelude.{slice_get, Some}
use Rattle.std.specs.declared.cmp.Ordering.TheVariants.{Less}
use Rattle.record_set.specs.declared.sets.RecordSet.{RecordSet}
use Rattle.record_set.specs.Sets.{key_of}
use Rattle.change_batch.specs.LentSets.{sets_lent}
use Rattle.config_model.specs.Keys.{key_cmp}
use Rattle.batch_edits.proofs.differences.next_place.Given as goal

abbrev pub invariant-loop-place : goal.invariant-loop-place
invariant-loop-place l = (k : ℕ) (other : RecordSet) → l.from ≤ k → k < l.place
    → slice_get (sets_lent l.others) k ≡ Some other → key_cmp (key_of other) (key_of l.set) ≡ Less
