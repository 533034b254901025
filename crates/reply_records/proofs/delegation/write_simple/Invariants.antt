use Rattle.std.proofs.Common.{take}
use Rattle.std.specs.List.{flat_map}
use Rattle.dns_wire.specs.declared.reply.Section.TheVariants.{Additional}
use Rattle.policy_select.specs.Groups.{sets_in}
use Rattle.reply_records.specs.Delegating.{simple_part}
use Rattle.reply_records.specs.Writing.{TakesRecords, Writes}
use Rattle.reply_records.proofs.delegation.write_simple.Given as goal

abbrev pub invariant-loop-i : goal.invariant-loop-i
invariant-loop-i l = record {
  still_open : TakesRecords Additional l.reply;
  written : Writes Additional
      (flat_map simple_part (take l.i (sets_in l.zones.zones l.group))) l.fn.reply l.reply;
}
