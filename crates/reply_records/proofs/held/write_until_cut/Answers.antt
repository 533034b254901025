use Rattle.std.proofs.Common.{◌+◌, ap, arith, List, ℕ}
use Rattle.policy_select.specs.Records.{data_of, records}
use Rattle.reply_records.proofs.Written.{all_of, map_cut, nothing, same, still_open, value_more}
use Rattle.reply_records.proofs.held.write_until_cut.Goals as goal

pub loop-i-init : goal.loop-i-init
loop-i-init c = record {
  still_open = c.requires.open;
  written = λ set held.
      nothing c.records_add_up.ensures c.args.section c.args.reply.now;
}

pub loop-i-preserved : goal.loop-i-preserved
loop-i-preserved c = record {
  still_open = still_open c.records_add_up.ensures c.args.section _ c.loop-i.reply
      c.write_or_cut.new.reply c.loop-i.invariant.still_open c.write_or_cut.ensures.written;
  written = λ set held.
      value_more c.records_add_up.ensures c.args.section c.args.owner.now set.rtype
      c.rtype_of-rtype.result c.args.ttl (data_of set.body) c.loop-i.i c.rdata_at-rdata.result.now
      c.args.reply.now c.loop-i.reply c.write_or_cut.new.reply (c.rtype_of-rtype.ensures set held)
      (c.rdata_at-rdata.ensures.at set held) (c.loop-i.invariant.written set held)
      c.write_or_cut.ensures.written;
}

pub returns-then-write_or_cut-clause-written : goal.returns-then-write_or_cut-clause-written
returns-then-write_or_cut-clause-written c = λ set held.
    let adds = c.records_add_up.ensures in
    map_cut adds c.args.section (λ (rdata : List ℕ). record {
      owner = c.args.owner.now;
      rtype = set.rtype;
      ttl = c.args.ttl;
      rdata = rdata;
    }) (data_of set.body) (c.loop-i.i + 1) c.args.reply.now c.write_or_cut.new.reply
    (value_more adds c.args.section c.args.owner.now set.rtype c.rtype_of-rtype.result c.args.ttl
    (data_of set.body) c.loop-i.i c.rdata_at-rdata.result.now c.args.reply.now c.loop-i.reply
    c.write_or_cut.new.reply (c.rtype_of-rtype.ensures set held)
    (c.rdata_at-rdata.ensures.at set held) (c.loop-i.invariant.written set held)
    c.write_or_cut.ensures.written) (c.write_or_cut.ensures.truncated c.if-write_or_cut.true)

pub returns-clause-written : goal.returns-clause-written
returns-clause-written c = λ set held.
    let counted = c.count_of-i-end.ensures.count set held in
    let behind = c.loop-i-test.false in
    same c.args.section _ _ c.args.reply.now c.loop-i.reply
    (ap (records c.args.owner.now set.rtype c.args.ttl)
    (all_of (data_of set.body) c.loop-i.i (omega (arith, counted, behind))))
    (c.loop-i.invariant.written set held)
