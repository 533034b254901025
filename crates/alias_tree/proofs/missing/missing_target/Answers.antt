use Rattle.std.proofs.Common.{◌≡◌, below_more, arith, refl, subst}
use Rattle.std.proofs.lemmas.Option.{slice_get_read}
use Rattle.set_search.specs.Walks.{HasNoTarget}
use Rattle.alias_tree.proofs.missing.missing_target.Goals as goal

pub loop-i-preserved : goal.loop-i-preserved
loop-i-preserved c =
    let sets = c.args.sets.now in
    let set = c.index-sets-i in
    let not_so = c.if-has_no_target.false in
    let here = slice_get_read sets _ c.loop-i.i set.result refl c.loop-i-test.true set.is in
    below_more _ _ c.loop-i.invariant (λ h.
    let at = h.1 in
    let same : h.0 ≡ set.result = grind (arith, at, here) in
    let so = c.has_no_target.ensures.1 (subst (λ s. HasNoTarget sets s) same h.2) in
    grind (arith, so, not_so))

pub returns : goal.returns
returns c =
    let test = c.loop-i-test.false in
    λ i lt. c.loop-i.invariant i (omega (arith, lt, test))
