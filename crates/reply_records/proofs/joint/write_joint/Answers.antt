use Rattle.std.proofs.Common.{◌+◌, ◌++◌, ◌∙◌, ap, get_or, subst, sym, List, ℕ}
use Rattle.policy_select.specs.Records.{data_of, records}
use Rattle.dns_wire.specs.declared.reply.Section.TheVariants.{Answer}
use Rattle.policy_select.specs.Groups.{sets_in}
use Rattle.policy_select.proofs.Looked.{number_at}
use Rattle.reply_records.specs.Chosen.{all_data, new_data, sets_of_places}
use Rattle.reply_records.specs.Seeing.{Sees}
use Rattle.reply_records.specs.Writing.{Writes}
use Rattle.reply_records.proofs.Joined.{data_more, joint_step}
use Rattle.reply_records.proofs.Written.{joint_cut, more, same, still_open}
use Rattle.reply_records.proofs.joint.write_joint.Goals as goal

pub loop-i-preserved : goal.loop-i-preserved
loop-i-preserved c =
    let adds = c.records_add_up.ensures in
    let zones = c.args.zones.now.zones in
    let all = sets_in zones c.args.group in
    let places = c.args.places.now in
    let inv = c.loop-i.invariant in
    let there = c.write_new.ensures.there in
    let wrote = subst (λ (ps : List ℕ). Writes Answer (records c.args.owner.now c.args.rtype
    c.args.ttl (new_data (sets_of_places zones c.args.group ps) (data_of there.0.body)))
    c.loop-i.reply c.write_new.new.reply) c.places_before-earlier.ensures
    (c.write_new.ensures.written there.0 there.1) in record {
      still_open = still_open adds Answer _ c.loop-i.reply c.write_new.new.reply
          inv.still_open wrote;
      written = same Answer _ _ c.args.reply.now c.write_new.new.reply
          (joint_step all places c.loop-i.i (get_or places c.loop-i.i 0) there.0
          c.args.owner.now c.args.rtype c.args.ttl
          (number_at places c.loop-i.i c.loop-i-test.true) there.1)
          (more adds Answer _ _ c.args.reply.now c.loop-i.reply c.write_new.new.reply
          inv.written wrote);
      sees = subst (λ (ds : List (List ℕ)). Sees ds c.write_new.new.values c.write_new.new.seen)
          (ap (λ (ps : List ℕ). all_data (sets_of_places zones c.args.group ps)
          ++ data_of there.0.body) c.places_before-earlier.ensures
          ∙ sym (data_more all places c.loop-i.i (get_or places c.loop-i.i 0) there.0
          (number_at places c.loop-i.i c.loop-i-test.true) there.1))
          (c.write_new.ensures.sees there.0 there.1 c.if-write_new.false);
      within = c.write_new.ensures.within;
    }

pub write_new-requires-clause-sees : goal.write_new-requires-clause-sees
write_new-requires-clause-sees c =
    let zones = c.args.zones.now.zones in
    subst (λ (ps : List ℕ). Sees (all_data (sets_of_places zones c.args.group ps))
    c.loop-i.values c.loop-i.seen) (sym c.places_before-earlier.ensures) c.loop-i.invariant.sees

pub returns-then-write_new : goal.returns-then-write_new
returns-then-write_new c =
    let adds = c.records_add_up.ensures in
    let zones = c.args.zones.now.zones in
    let all = sets_in zones c.args.group in
    let places = c.args.places.now in
    let inv = c.loop-i.invariant in
    let there = c.write_new.ensures.there in
    let wrote = subst (λ (ps : List ℕ). Writes Answer (records c.args.owner.now c.args.rtype
    c.args.ttl (new_data (sets_of_places zones c.args.group ps) (data_of there.0.body)))
    c.loop-i.reply c.write_new.new.reply) c.places_before-earlier.ensures
    (c.write_new.ensures.written there.0 there.1) in
    joint_cut adds c.args.owner.now c.args.rtype c.args.ttl c.args.reply.now c.write_new.new.reply
    (c.write_new.ensures.truncated c.if-write_new.true) all places (c.loop-i.i + 1)
    (same Answer _ _ c.args.reply.now c.write_new.new.reply
    (joint_step all places c.loop-i.i (get_or places c.loop-i.i 0) there.0
    c.args.owner.now c.args.rtype c.args.ttl
    (number_at places c.loop-i.i c.loop-i-test.true) there.1)
    (more adds Answer _ _ c.args.reply.now c.loop-i.reply c.write_new.new.reply
    inv.written wrote))
