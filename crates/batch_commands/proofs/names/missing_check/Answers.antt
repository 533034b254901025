use Rattle.std.proofs.Common.{refl}
use Rattle.std.proofs.lemmas.Option.{slice_get_read}
use Rattle.config_zones.specs.Batches.{check_refusal}
use Rattle.batch_commands.proofs.Firsts.{none_left, not_this, this_one}
use Rattle.batch_commands.proofs.names.missing_check.Goals as goal

pub returns-in-Some : goal.returns-in-Some
returns-in-Some c =
    let sets = c.args.sets.now in
    let set = c.index-sets-i in
    this_one (check_refusal c.args.checks.now.checks.list) sets c.loop-i.i c.loop-i.invariant set.result
    (slice_get_read sets _ c.loop-i.i set.result refl c.loop-i-test.true set.is) c.in-Some.why
    c.in-Some.ensures

pub loop-i-preserved : goal.loop-i-preserved
loop-i-preserved c =
    let sets = c.args.sets.now in
    let set = c.index-sets-i in
    not_this (check_refusal c.args.checks.now.checks.list) sets c.loop-i.i c.loop-i.invariant set.result
    (slice_get_read sets _ c.loop-i.i set.result refl c.loop-i-test.true set.is)
    c.in_default.ensures

pub returns : goal.returns
returns c =
    none_left (check_refusal c.args.checks.now.checks.list) c.args.sets.now c.loop-i.i c.loop-i.invariant c.loop-i-test.false
