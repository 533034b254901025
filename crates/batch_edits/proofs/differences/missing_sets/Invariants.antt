use Rattle.std.proofs.Common.{◌≤◌, length}
use Rattle.change_batch.specs.LentSets.{sets_lent}
use Rattle.batch_edits.proofs.Missing.{FoundSo}
use Rattle.batch_edits.proofs.differences.missing_sets.Given as goal

abbrev pub invariant-loop-i : goal.invariant-loop-i
invariant-loop-i l = record {
  within : l.place ≤ length (sets_lent l.others);
  found : FoundSo (sets_lent l.sets) (sets_lent l.others) l.i l.place l.found.items;
}
