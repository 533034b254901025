use Rattle.std.proofs.Common.{◌≡◌, ◌≤◌, List, length, map}
use Rattle.change_batch.specs.LentSets.{sets_lent}
use Rattle.record_set.specs.declared.sets.RecordSet.{RecordSet}
use Rattle.record_set.specs.Sets.{key_of}
use Rattle.batch_edits.proofs.Missing.{FoundSo}
use Rattle.batch_edits.proofs.differences.missing_keys.Given as goal

abbrev pub invariant-loop-i : goal.invariant-loop-i
invariant-loop-i l = record {
  within : l.place ≤ length (sets_lent l.others);
  found : (gone : List RecordSet) × FoundSo (sets_lent l.sets) (sets_lent l.others) l.i l.place gone
      × (l.keys.items ≡ map key_of gone);
}
