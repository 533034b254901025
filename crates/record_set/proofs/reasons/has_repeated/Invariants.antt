use Rattle.std.proofs.Common.{◌≢◌, ◌<◌, ℕ}
use Rattle.std.specs.Prelude.{slice_get}
use Rattle.record_set.proofs.reasons.has_repeated.Given as goal

abbrev pub invariant-loop-other : goal.invariant-loop-other
invariant-loop-other l = record {
  earlier : (j k : ℕ) → j < k → k < l.i → slice_get l.values j ≢ slice_get l.values k;
  below : (j : ℕ) → j < l.other-index → slice_get l.values j ≢ slice_get l.values l.i;
}

abbrev pub invariant-loop-i : goal.invariant-loop-i
invariant-loop-i l = (j k : ℕ) → j < k → k < l.i → slice_get l.values j ≢ slice_get l.values k
