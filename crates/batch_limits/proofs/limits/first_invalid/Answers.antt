use Rattle.std.proofs.Common.{refl, subst}
use Rattle.std.proofs.lemmas.Option.{slice_get_read}
use Rattle.batch_model.specs.Reasons.{IsFirst}
use Rattle.batch_limits.proofs.Valid.{valid_more}
use Rattle.batch_limits.proofs.limits.first_invalid.Goals as goal

pub loop-i-preserved : goal.loop-i-preserved
loop-i-preserved c =
    let x = c.index-changes-i in
    valid_more c.args.changes.now c.args.apex.now c.loop-i.i x.result c.loop-i.invariant
    (slice_get_read c.args.changes.now _ c.loop-i.i x.result refl c.loop-i-test.true x.is)
    (subst (λ r. IsFirst r x.result.set c.args.apex.now) c.in_default.is c.check_set.ensures)
