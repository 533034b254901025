use Rattle.std.proofs.Common.{◌+◌, ◌∙◌, arith, subst, sym, Option}
use Rattle.policy_select.specs.Records.{data_of}
use Rattle.dns_wire.specs.declared.reply.Section.TheVariants.{Answer}
use Rattle.record_set.specs.declared.sets.RecordSet.{RecordSet}
use Rattle.policy_select.specs.Holding.{HasValue}
use Rattle.policy_select.proofs.MembersOfZoneList.{filled}
use Rattle.reply_records.specs.Chosen.{sets_of_places}
use Rattle.reply_records.proofs.Joined.{new_more}
use Rattle.reply_records.proofs.Shown.{set_of_held}
use Rattle.reply_records.proofs.Written.{more, new_cut, same, still_open}
use Rattle.reply_records.proofs.joint.write_those_new.Goals as goal

pub write_if_new-requires-clause-value : goal.write_if_new-requires-clause-value
write_if_new-requires-clause-value c =
    subst (λ (o : Option RecordSet). HasValue o c.loop-i.i) (sym c.loop-i.invariant.as_begun)
    (c.count_of-i-end.ensures.places c.loop-i.i c.loop-i-test.true)

pub write_if_new-requires-clause-rtype : goal.write_if_new-requires-clause-rtype
write_if_new-requires-clause-rtype c = λ set held.
    c.requires.rtype set (sym c.loop-i.invariant.as_begun ∙ held)

pub loop-i-preserved : goal.loop-i-preserved
loop-i-preserved c =
    let adds = c.records_add_up.ensures in
    let zones = c.args.zones.now.zones in
    let begun = set_of_held c.args.scratch.now c.requires.holding in
    let set = begun.0 in
    let inv = c.loop-i.invariant in
    let counted = c.count_of-i-end.ensures.count set begun.1 in
    let within = c.loop-i-test.true in
    let x = filled (data_of set.body) c.loop-i.i (omega (arith, counted, within)) in
    let here = inv.as_begun ∙ begun.1 in
    let wrote = c.write_if_new.ensures.written set x.0 here x.1 in record {
      still_open = still_open adds Answer _ c.loop-i.reply c.write_if_new.new.reply
          inv.still_open wrote;
      held = c.write_if_new.ensures.held ∙ inv.held;
      as_begun = c.write_if_new.ensures.held ∙ inv.as_begun;
      written = λ other there.
          let counted_too = c.count_of-i-end.ensures.count other (c.requires.held ∙ there) in
          let y = filled (data_of other.body) c.loop-i.i (omega (arith, counted_too, within)) in
          same Answer _ _ c.args.reply.now c.write_if_new.new.reply
          (new_more (sets_of_places zones c.args.group c.args.earlier.now) (data_of other.body)
          c.loop-i.i y.0 c.args.owner.now c.args.rtype c.args.ttl y.1)
          (more adds Answer _ _ c.args.reply.now c.loop-i.reply c.write_if_new.new.reply
          (inv.written other there)
          (c.write_if_new.ensures.written other y.0 (inv.held ∙ there) y.1));
    }

pub returns-then-write_if_new-clause-written : goal.returns-then-write_if_new-clause-written
returns-then-write_if_new-clause-written c = λ other there.
    let adds = c.records_add_up.ensures in
    let zones = c.args.zones.now.zones in
    let earlier = sets_of_places zones c.args.group c.args.earlier.now in
    let inv = c.loop-i.invariant in
    let within = c.loop-i-test.true in
    let counted = c.count_of-i-end.ensures.count other (c.requires.held ∙ there) in
    let y = filled (data_of other.body) c.loop-i.i (omega (arith, counted, within)) in
    new_cut adds earlier (data_of other.body) (c.loop-i.i + 1) c.args.owner.now c.args.rtype
    c.args.ttl c.args.reply.now c.write_if_new.new.reply
    (same Answer _ _ c.args.reply.now c.write_if_new.new.reply
    (new_more earlier (data_of other.body) c.loop-i.i y.0 c.args.owner.now c.args.rtype c.args.ttl
    y.1)
    (more adds Answer _ _ c.args.reply.now c.loop-i.reply c.write_if_new.new.reply
    (inv.written other there) (c.write_if_new.ensures.written other y.0 (inv.held ∙ there) y.1)))
    (c.write_if_new.ensures.truncated c.if-write_if_new.true)
