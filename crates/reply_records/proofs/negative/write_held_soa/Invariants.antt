use Rattle.std.proofs.Common.{◌≡◌, Some, take}
use Rattle.std.specs.Prelude.{map}
use Rattle.policy_select.specs.Records.{data_of, soa_record, ttl_of}
use Rattle.dns_wire.specs.declared.reply.Section.TheVariants.{Authority}
use Rattle.record_set.specs.declared.sets.RecordSet.{RecordSet}
use Rattle.reply_records.specs.Writing.{TakesRecords, Writes}
use Rattle.reply_records.proofs.negative.write_held_soa.Given as goal

abbrev pub invariant-loop-i : goal.invariant-loop-i
invariant-loop-i l = record {
  still_open : TakesRecords Authority l.reply;
  written : (set : RecordSet) → l.scratch ≡ Some set
      → Writes Authority
      (map (soa_record l.apex (ttl_of set.body)) (take l.i (data_of set.body))) l.fn.reply l.reply;
}
