use Rattle.std.proofs.Common.{refl, ap, sym, ◌∙◌}
use Rattle.std.proofs.lemmas.Option.{slice_get_read}
use Rattle.config_zones.specs.Batches.{location_refusal, named_location}
use Rattle.record_set.specs.declared.sets.RecordSet.{RecordSet}
use Rattle.batch_commands.proofs.Firsts.{none_left, not_this, this_one}
use Rattle.batch_commands.proofs.names.missing_location.Goals as goal

pub returns-in-Some : goal.returns-in-Some
returns-in-Some c =
    let list = c.args.collections.now.list in
    let sets = c.args.sets.now in
    let set = c.index-sets-i in
    this_one (location_refusal list) sets c.loop-i.i c.loop-i.invariant set.result
    (slice_get_read sets _ c.loop-i.i set.result refl c.loop-i-test.true set.is) c.in-Some.why
    (c.in-Some.ensures ∙ ap (λ (s : RecordSet). named_location list s.routing) (sym set.is))

pub loop-i-preserved : goal.loop-i-preserved
loop-i-preserved c =
    let list = c.args.collections.now.list in
    let sets = c.args.sets.now in
    let set = c.index-sets-i in
    not_this (location_refusal list) sets c.loop-i.i c.loop-i.invariant set.result
    (slice_get_read sets _ c.loop-i.i set.result refl c.loop-i-test.true set.is)
    (c.in_default.ensures ∙ ap (λ (s : RecordSet). named_location list s.routing) (sym set.is))

pub returns : goal.returns
returns c =
    none_left (location_refusal c.args.collections.now.list) c.args.sets.now c.loop-i.i
    c.loop-i.invariant c.loop-i-test.false
