use Rattle.std.specs.List.{flat_map}
use Rattle.dns_wire.specs.declared.reply.Section.TheVariants.{Additional}
use Rattle.policy_select.specs.Groups.{sets_in}
use Rattle.reply_records.specs.Delegating.{simple_part}
use Rattle.reply_records.proofs.Written.{behind_cut, more}
use Rattle.reply_records.proofs.delegation.write_addresses.Goals as goal

pub returns-then-write_simple-clause-written : goal.returns-then-write_simple-clause-written
returns-then-write_simple-clause-written c =
    more c.records_add_up.ensures Additional _ _ c.args.reply.now c.write_simple.new.reply
    c.write_simple.new.reply c.write_simple.ensures.written
    (behind_cut Additional
    (flat_map simple_part (sets_in c.args.zones.now.zones c.args.found.now.six))
    c.write_simple.new.reply (c.write_simple.ensures.truncated c.if-write_simple.true))

pub returns-clause-written : goal.returns-clause-written
returns-clause-written c =
    more c.records_add_up.ensures Additional _ _ c.args.reply.now c.write_simple.new.reply
    c.write_simple-2.new.reply c.write_simple.ensures.written c.write_simple-2.ensures.written
