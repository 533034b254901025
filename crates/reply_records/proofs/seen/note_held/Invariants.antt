use Rattle.std.proofs.Common.{◌≡◌, ◌≤◌, ◌++◌, ℕ, List, Some, length, take}
use Rattle.policy_select.specs.Records.{data_of}
use Rattle.record_set.specs.declared.sets.RecordSet.{RecordSet}
use Rattle.reply_records.specs.Seeing.{Sees}
use Rattle.reply_records.proofs.seen.note_held.Given as goal

abbrev pub invariant-loop-i : goal.invariant-loop-i
invariant-loop-i l = record {
  within : l.seen.count ≤ length l.values;
  room : length l.values ≡ length l.fn.values;
  sees : (set : RecordSet) (rdatas : List (List ℕ)) → l.scratch ≡ Some set
      → Sees rdatas l.fn.values l.fn.seen
      → Sees (rdatas ++ take l.i (data_of set.body)) l.values l.seen;
}
