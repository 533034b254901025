use Rattle.std.proofs.Common.{ap, arith, length, List, ℕ}
use Rattle.zone_lookup.proofs.Beside.{at_root, found_nearest, further, walk_begins}
use Rattle.zone_lookup.proofs.standing.nearest_beside.Goals as goal

pub loop-nearest-init : goal.loop-nearest-init
loop-nearest-init c = walk_begins c.args.name.now c.args.before.now c.args.behind.now

pub returns-then-is_under : goal.returns-then-is_under
returns-then-is_under c = λ sets are some.
    found_nearest c.args.name.now c.args.before.now c.args.behind.now c.loop-nearest.nearest
    c.loop-nearest.invariant sets are
    (are.under_behind c.loop-nearest.nearest (c.is_under-in-loop-nearest.ensures.0 c.if-is_under.true))

pub loop-nearest-smaller : goal.loop-nearest-smaller
loop-nearest-smaller c =
    let parent = c.in-Some.ensures.some in
    let counted = ap (λ (n : List (List ℕ)). length n) parent.1 in
    omega (arith, counted)

pub loop-nearest-preserved : goal.loop-nearest-preserved
loop-nearest-preserved c =
    let parent = c.in-Some.ensures.some in
    let so_far = c.loop-nearest-test.true in
    let not_so = c.if-is_under.false in
    further c.args.name.now c.args.before.now c.args.behind.now c.loop-nearest.nearest
    c.loop-nearest.invariant parent.0 c.in-Some.parent parent.1
    (λ under. (let told = c.is_under.ensures.1 under in
    absurd (grind (arith, told, so_far))))
    (λ under. (let told = c.is_under-in-loop-nearest.ensures.1 under in
    absurd (grind (arith, told, not_so))))

pub returns-in-None : goal.returns-in-None
returns-in-None c = λ sets are some.
    let so_far = c.loop-nearest-test.true in
    let not_so = c.if-is_under.false in
    at_root c.args.name.now c.args.before.now c.args.behind.now c.loop-nearest.nearest
    c.loop-nearest.invariant sets are some c.in-None.ensures.none
    (λ under. (let told = c.is_under.ensures.1 under in
    absurd (grind (arith, told, so_far))))
    (λ under. (let told = c.is_under-in-loop-nearest.ensures.1 under in
    absurd (grind (arith, told, not_so))))

pub returns : goal.returns
returns c = λ sets are some.
    found_nearest c.args.name.now c.args.before.now c.args.behind.now c.loop-nearest.nearest
    c.loop-nearest.invariant sets are
    (are.under_before c.loop-nearest.nearest (c.is_under.ensures.0 c.loop-nearest-test.false))
