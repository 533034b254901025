use Rattle.std.proofs.Common.{◌≡◌, Some, drop}
use Rattle.policy_select.specs.Records.{data_of, is_among}
use Rattle.record_set.specs.declared.sets.RecordSet.{RecordSet}
use Rattle.reply_records.proofs.joint.has_value.Given as goal

abbrev pub invariant-loop-i : goal.invariant-loop-i
invariant-loop-i l = (set : RecordSet) → l.scratch ≡ Some set
    → is_among (drop l.i (data_of set.body)) l.rdata ≡ is_among (data_of set.body) l.rdata
