use Rattle.std.proofs.Common.{take}
use Rattle.std.specs.Prelude.{map}
use Rattle.std.specs.List.{flat_map}
use Rattle.policy_select.specs.Records.{data_of, soa_record, ttl_of}
use Rattle.dns_wire.specs.declared.reply.Section.TheVariants.{Authority}
use Rattle.policy_select.specs.Groups.{sets_in}
use Rattle.record_set.specs.declared.sets.RecordSet.{RecordSet}
use Rattle.reply_records.specs.Writing.{TakesRecords, Writes}
use Rattle.reply_records.proofs.negative.write_soa.Given as goal

abbrev pub invariant-loop-i : goal.invariant-loop-i
invariant-loop-i l = record {
  still_open : TakesRecords Authority l.reply;
  written : Writes Authority
      (flat_map (λ (set : RecordSet). map (soa_record l.apex (ttl_of set.body)) (data_of set.body))
      (take l.i (sets_in l.zones.zones l.found))) l.fn.reply l.reply;
}
