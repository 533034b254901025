use Rattle.zone_list.proofs.Naming.{ended, found_above, gone_up}
use Rattle.zone_list.proofs.apexes.climb.Goals as goal

pub returns-in-Some-nearest : goal.returns-in-Some-nearest
returns-in-Some-nearest c =
    let parent = c.in-Some-parent.ensures.some in
    found_above c.args.list.now c.args.name.now c.loop-parent.rest c.loop-parent.invariant parent.0
    c.in-Some-parent.parent parent.1 c.in-Some-nearest.id c.in-Some-nearest.ensures

pub loop-parent-preserved : goal.loop-parent-preserved
loop-parent-preserved c =
    let parent = c.in-Some-parent.ensures.some in
    gone_up c.args.list.now c.args.name.now c.loop-parent.rest c.loop-parent.invariant parent.0
    c.in-Some-parent.parent parent.1 c.in_default-nearest.ensures

pub returns : goal.returns
returns c =
    ended c.args.list.now c.args.name.now c.loop-parent.rest c.loop-parent.invariant
    c.in_default-parent.ensures.none
