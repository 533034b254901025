use Rattle.std.proofs.Common.{◌≡◌, Some, take}
use Rattle.policy_select.specs.Records.{data_of, records}
use Rattle.record_set.specs.declared.sets.RecordSet.{RecordSet}
use Rattle.reply_records.specs.Writing.{TakesRecords, Writes}
use Rattle.reply_records.proofs.held.write_until_cut.Given as goal

abbrev pub invariant-loop-i : goal.invariant-loop-i
invariant-loop-i l = record {
  still_open : TakesRecords l.section l.reply;
  written : (set : RecordSet) → l.scratch ≡ Some set
      → Writes l.section (records l.owner set.rtype l.ttl (take l.i (data_of set.body)))
      l.fn.reply l.reply;
}
