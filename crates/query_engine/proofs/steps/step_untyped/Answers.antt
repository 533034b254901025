use Rattle.std.proofs.Common.{subst, sym, List}
use Rattle.reply_records.proofs.Targets.{of_its_type}
use Rattle.reply_records.specs.Groups.{sets_in_zone}
use Rattle.rdata_layout.specs.declared.types.RType.TheVariants as rtype
use Rattle.record_set.specs.declared.sets.RecordSet.{RecordSet}
use Rattle.zone_model.specs.Zones.{IsAmong}
use Rattle.query_engine.proofs.steps.step_untyped.Goals as goal

pub step_cname-requires-clause-typed : goal.step_cname-requires-clause-typed
step_cname-requires-clause-typed g c = λ set there.
    let zones = c.args.zones.now.zones in
    sym (of_its_type c.types_have_their_own_number.ensures
    (sets_in_zone zones c.args.asked.now.zone) c.args.from.now rtype.Cname set
    (subst (λ (sets : List RecordSet). IsAmong sets set) c.find_group-cnames.ensures.sets there))
