use Rattle.std.proofs.Common.{◌≤◌, [], length, take}
use Rattle.policy_select.specs.Records.{joint_data, records}
use Rattle.dns_wire.specs.declared.reply.Section.TheVariants.{Answer}
use Rattle.reply_records.specs.Chosen.{all_data, sets_of_places}
use Rattle.reply_records.specs.Seeing.{Sees}
use Rattle.reply_records.specs.Writing.{TakesRecords, Writes}
use Rattle.reply_records.proofs.joint.write_joint.Given as goal

abbrev pub invariant-loop-i : goal.invariant-loop-i
invariant-loop-i l = record {
  still_open : TakesRecords Answer l.reply;
  written : Writes Answer (records l.owner l.rtype l.ttl
      (joint_data [] (sets_of_places l.zones.zones l.group (take l.i l.places))))
      l.fn.reply l.reply;
  sees : Sees (all_data (sets_of_places l.zones.zones l.group (take l.i l.places))) l.values l.seen;
  within : l.seen.count ≤ length l.values;
}
