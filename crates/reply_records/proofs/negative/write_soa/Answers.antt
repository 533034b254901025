use Rattle.std.proofs.Common.{◌∙◌, ap, arith, length, subst, sym, List}
use Rattle.std.specs.Prelude.{map}
use Rattle.std.specs.List.{flat_map}
use Rattle.policy_select.specs.Records.{data_of, soa_record, ttl_of}
use Rattle.dns_wire.specs.declared.reply.Section.TheVariants.{Authority}
use Rattle.policy_select.proofs.Targets.{of_its_type}
use Rattle.policy_select.specs.Groups.{sets_in, sets_in_zone}
use Rattle.rdata_layout.specs.declared.types.RType.TheVariants as rtype
use Rattle.record_set.specs.declared.sets.RecordSet.{RecordSet}
use Rattle.zone_model.specs.Zones.{IsAmong}
use Rattle.reply_records.proofs.Joined.{among_at}
use Rattle.reply_records.proofs.Written.{all_of, flat_more, same, still_open}
use Rattle.reply_records.proofs.negative.write_soa.Goals as goal

pub write_held_soa-requires-clause-soa : goal.write_held_soa-requires-clause-soa
write_held_soa-requires-clause-soa c = λ set held.
    let all = sets_in c.args.zones.now.zones c.find_group-found.result in
    sym (of_its_type c.types_have_their_own_number.ensures
    (sets_in_zone c.args.zones.now.zones c.args.zone) c.args.apex.now rtype.Soa set
    (subst (λ (sets : List RecordSet). IsAmong sets set) c.find_group-found.ensures.sets
    (among_at all c.loop-i.i set (sym c.load_member.ensures.loaded ∙ held))))

pub loop-i-preserved : goal.loop-i-preserved
loop-i-preserved c =
    let adds = c.records_add_up.ensures in
    let all = sets_in c.args.zones.now.zones c.find_group-found.result in
    let read = c.load_member.ensures in
    let wrote = c.write_held_soa.ensures read.some.0 read.some.1 in record {
      still_open = still_open adds Authority _ c.loop-i.reply c.write_held_soa.new.reply
          c.loop-i.invariant.still_open wrote;
      written = flat_more adds Authority
          (λ (set : RecordSet). map (soa_record c.args.apex.now (ttl_of set.body))
          (data_of set.body)) all c.loop-i.i read.some.0
          c.args.reply.now c.loop-i.reply c.write_held_soa.new.reply
          (sym read.loaded ∙ read.some.1) c.loop-i.invariant.written wrote;
    }

pub returns : goal.returns
returns c =
    let found = c.find_group-found.ensures in
    let all = sets_in c.args.zones.now.zones c.find_group-found.result in
    let count = found.count in
    let many = ap (λ (sets : List RecordSet). length sets) found.sets in
    let behind = c.loop-i-test.false in
    same Authority _ _ c.args.reply.now c.loop-i.reply
    (ap (flat_map (λ (set : RecordSet). map (soa_record c.args.apex.now (ttl_of set.body))
    (data_of set.body)))
    (all_of all c.loop-i.i (omega (arith, count, many, behind)) ∙ found.sets))
    c.loop-i.invariant.written
