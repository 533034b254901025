use Rattle.std.proofs.Common.{subst, Some, arith}
use Rattle.check_model.specs.Checks.{NextIdOrNone}
use Rattle.health_check.proofs.Places.{Held, next_there, no_next}
use Rattle.health_check.proofs.finding.id_after.Goals as goal

pub returns-then-place-list : goal.returns-then-place-list
returns-then-place-list c =
    let e = c.if-place-list.true in
    no_next c.args.list.now c.requires c.args.id c.count_up_to-place.result
    c.count_up_to-place.ensures.split (omega (arith, e))

pub returns : goal.returns
returns c =
    let e = c.if-place-list.false in
    let le = c.count_up_to-place.ensures.within in
    subst (λ (h : Held). NextIdOrNone c.args.list.now c.args.id (Some h.0)) c.index-list-place.is
    (next_there c.args.list.now c.requires c.args.id c.count_up_to-place.result
    c.count_up_to-place.ensures.split c.index-list-place.result (omega (arith, e, le))
    c.index-list-place.is)
