use Rattle.std.proofs.Common.{arith}
use Rattle.set_search.proofs.Below.{found_closest, further_up, name_above, root_ends}
use Rattle.set_search.proofs.names.closest_in.Goals as goal

pub exists_round-requires-clause-below : goal.exists_round-requires-clause-below
exists_round-requires-clause-below g c =
    let parent = c.in-Some.ensures.some in
    name_above (g.S.SetList.sets c.args.sets.now) c.args.name.now c.loop-parent.closest parent.0
    c.in-Some.parent parent.1 c.loop-parent.invariant

pub returns-then-exists_round : goal.returns-then-exists_round
returns-then-exists_round g c =
    let parent = c.in-Some.ensures.some in
    found_closest (g.S.SetList.sets c.args.sets.now) c.args.name.now c.loop-parent.closest parent.0
    c.in-Some.parent parent.1 c.loop-parent.invariant
    (c.exists_round.ensures.0 c.if-exists_round.true)

pub loop-parent-preserved : goal.loop-parent-preserved
loop-parent-preserved g c =
    let parent = c.in-Some.ensures.some in
    let no = c.if-exists_round.false in
    further_up (g.S.SetList.sets c.args.sets.now) c.args.name.now c.loop-parent.closest parent.0
    c.in-Some.parent parent.1 c.loop-parent.invariant
    (λ h. let t = c.exists_round.ensures.1 h in grind (arith, t, no))

pub returns : goal.returns
returns g c =
    let some = c.requires.some in
    absurd (root_ends (g.S.SetList.sets c.args.sets.now) c.args.name.now c.loop-parent.closest
    c.loop-parent.invariant c.in_default.ensures.none some.0 some.1 some.2)
