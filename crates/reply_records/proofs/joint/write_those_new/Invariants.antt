use Rattle.std.proofs.Common.{◌≡◌, Some, take}
use Rattle.std.specs.Prelude.{slice_get}
use Rattle.policy_select.specs.Records.{data_of, records}
use Rattle.dns_wire.specs.declared.reply.Section.TheVariants.{Answer}
use Rattle.policy_select.specs.Groups.{sets_in}
use Rattle.record_set.specs.declared.sets.RecordSet.{RecordSet}
use Rattle.reply_records.specs.Chosen.{new_data, sets_of_places}
use Rattle.reply_records.specs.Writing.{TakesRecords, Writes}
use Rattle.reply_records.proofs.joint.write_those_new.Given as goal

abbrev pub invariant-loop-i : goal.invariant-loop-i
invariant-loop-i l = record {
  still_open : TakesRecords Answer l.reply;
  held : l.scratch ≡ slice_get (sets_in l.zones.zones l.group) l.place;
  as_begun : l.scratch ≡ l.fn.scratch;
  written : (set : RecordSet) → slice_get (sets_in l.zones.zones l.group) l.place ≡ Some set
      → Writes Answer (records l.owner l.rtype l.ttl
      (new_data (sets_of_places l.zones.zones l.group l.earlier) (take l.i (data_of set.body))))
      l.fn.reply l.reply;
}
