use Rattle.std.proofs.Common.{ap, ◌∙◌, arith}
use Rattle.std.proofs.lemmas.List.{get_or_default}
use Rattle.health_check.proofs.Places.{Held, absent, found_there}
use Rattle.health_check.proofs.finding.searched.Goals as goal

pub returns-then-place-list : goal.returns-then-place-list
returns-then-place-list c =
    let e = c.if-place-list.true in
    absent c.args.list.now c.requires c.args.id c.count_before-place.result
    c.count_before-place.ensures.split (λ d lt. absurd (omega (arith, e, lt)))

pub returns-then-list-place : goal.returns-then-list-place
returns-then-list-place c =
    absent c.args.list.now c.requires c.args.id c.count_before-place.result
    c.count_before-place.ensures.split
    (λ d lt same. c.if-list-place.true
    (ap (λ (h : Held). h.0) (get_or_default c.args.list.now c.count_before-place.result
    c.index-list-place.result d lt) ∙ same))

pub returns : goal.returns
returns c =
    let e = c.if-place-list.false in
    let le = c.count_before-place.ensures.within in
    found_there c.args.list.now c.requires c.count_before-place.result c.args.id
    c.index-list-place.result (omega (arith, e, le)) c.index-list-place.is
    (ap (λ (h : Held). h.0) c.index-list-place.is ∙ c.if-list-place.false)
