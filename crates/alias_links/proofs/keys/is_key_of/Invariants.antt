use Rattle.std.proofs.Common.{◌≡◌, ◌≢◌, ℕ, ◌<◌, slice_get, Some}
use Rattle.record_set.specs.declared.sets.SetKey.{SetKey}
use Rattle.alias_links.proofs.keys.is_key_of.Given as goal

abbrev pub invariant-loop-i : goal.invariant-loop-i
invariant-loop-i l = (j : ℕ) (key : SetKey) → j < l.i → slice_get l.keys j ≡ Some key → key ≢ l.key
