use Rattle.std.proofs.Common.{◌≡◌, ◌+◌, ◌-◌, ap, arith, take, List, ℕ}
use Rattle.policy_select.specs.Records.{data_of, glue_of}
use Rattle.dns_name.specs.Stored.{labels_of}
use Rattle.dns_wire.specs.declared.reply.Section.TheVariants.{Additional}
use Rattle.policy_select.specs.Groups.{sets_in_zone}
use Rattle.reply_records.specs.Delegating.{servers_glue}
use Rattle.reply_records.proofs.Gluing.{glue_is}
use Rattle.reply_records.proofs.Written.{behind_cut, flat_more, same}
use Rattle.reply_records.proofs.delegation.+write_first_glue.Goals as goal

pub returns-then-write_first_glue-clause-written : goal.returns-then-write_first_glue-clause-written
returns-then-write_first_glue-clause-written t c = λ set held.
    let adds = c.records_add_up.ensures in
    let sets = sets_in_zone c.args.zones.now.zones c.args.zone in
    let x = c.rdata_at.result.now in
    let last = c.args.count - 1 in
    let some = c.if-count-eq0.false in
    let counted : last + 1 ≡ c.args.count = omega (arith, some) in
    same Additional _ _ c.args.reply.now c.write_first_glue.new.reply
    (ap (λ (n : ℕ). servers_glue sets (take n (data_of set.body))) counted)
    (flat_more adds Additional (λ (rdata : List ℕ). glue_of sets (labels_of rdata))
    (data_of set.body) last x c.args.reply.now c.write_first_glue.new.reply
    c.write_first_glue.new.reply (c.rdata_at.ensures.at set held)
    (c.write_first_glue.ensures.written set held)
    (behind_cut Additional (glue_of sets (labels_of x)) c.write_first_glue.new.reply
    (c.write_first_glue.ensures.truncated c.if-write_first_glue.true)))

pub returns-clause-written : goal.returns-clause-written
returns-clause-written t c = λ set held.
    let adds = c.records_add_up.ensures in
    let zones = c.args.zones.now.zones in
    let sets = sets_in_zone zones c.args.zone in
    let x = c.rdata_at.result.now in
    let last = c.args.count - 1 in
    let some = c.if-count-eq0.false in
    let counted : last + 1 ≡ c.args.count = omega (arith, some) in
    same Additional _ _ c.args.reply.now c.write_addresses.new.reply
    (ap (λ (n : ℕ). servers_glue sets (take n (data_of set.body))) counted)
    (flat_more adds Additional (λ (rdata : List ℕ). glue_of sets (labels_of rdata))
    (data_of set.body) last x c.args.reply.now c.write_first_glue.new.reply
    c.write_addresses.new.reply (c.rdata_at.ensures.at set held)
    (c.write_first_glue.ensures.written set held)
    (same Additional _ _ c.write_first_glue.new.reply c.write_addresses.new.reply
    (glue_is zones c.args.zone (labels_of x) c.find_addresses-found.result
    c.find_addresses-found.ensures) c.write_addresses.ensures.written))
