use Rattle.std.proofs.Common.{◌+◌, ◌∙◌, ap, arith, sym}
use Rattle.std.specs.List.{flat_map}
use Rattle.dns_wire.specs.declared.reply.Section.TheVariants.{Additional}
use Rattle.policy_select.proofs.Targets.{as_many}
use Rattle.policy_select.specs.Groups.{sets_in}
use Rattle.reply_records.specs.Delegating.{simple_part}
use Rattle.reply_records.proofs.Written.{all_of, flat_cut, flat_more, nothing, same, still_open}
use Rattle.reply_records.proofs.delegation.write_simple.Goals as goal

pub loop-i-init : goal.loop-i-init
loop-i-init c = record {
  still_open = c.requires.open;
  written = nothing c.records_add_up.ensures Additional c.args.reply.now;
}

pub loop-i-preserved : goal.loop-i-preserved
loop-i-preserved c =
    let adds = c.records_add_up.ensures in
    let all = sets_in c.args.zones.now.zones c.args.group in
    let read = c.load_member.ensures in
    let wrote = c.write_if_simple.ensures.written read.some.0 read.some.1 in record {
      still_open = still_open adds Additional _ c.loop-i.reply c.write_if_simple.new.reply
          c.loop-i.invariant.still_open wrote;
      written = flat_more adds Additional simple_part all c.loop-i.i read.some.0
          c.args.reply.now c.loop-i.reply c.write_if_simple.new.reply
          (sym read.loaded ∙ read.some.1) c.loop-i.invariant.written wrote;
    }

pub returns-then-write_if_simple-clause-written : goal.returns-then-write_if_simple-clause-written
returns-then-write_if_simple-clause-written c =
    let adds = c.records_add_up.ensures in
    let all = sets_in c.args.zones.now.zones c.args.group in
    let read = c.load_member.ensures in
    flat_cut adds Additional simple_part all (c.loop-i.i + 1) c.args.reply.now
    c.write_if_simple.new.reply
    (flat_more adds Additional simple_part all c.loop-i.i read.some.0 c.args.reply.now
    c.loop-i.reply c.write_if_simple.new.reply (sym read.loaded ∙ read.some.1)
    c.loop-i.invariant.written (c.write_if_simple.ensures.written read.some.0 read.some.1))
    (c.write_if_simple.ensures.truncated c.if-write_if_simple.true)

pub returns-clause-written : goal.returns-clause-written
returns-clause-written c =
    let zones = c.args.zones.now.zones in
    let all = sets_in zones c.args.group in
    let many = as_many zones c.args.group c.requires.group in
    let behind = c.loop-i-test.false in
    same Additional _ _ c.args.reply.now c.loop-i.reply
    (ap (flat_map simple_part) (all_of all c.loop-i.i (omega (arith, many, behind))))
    c.loop-i.invariant.written
