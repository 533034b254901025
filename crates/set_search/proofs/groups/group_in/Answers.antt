use Rattle.std.proofs.Common.{arith}
use Rattle.set_search.proofs.Lookups.{filled}
use Rattle.set_search.proofs.Together.{in_order, group_at}
use Rattle.set_search.proofs.groups.group_in.Goals as goal

pub overflow_sub-result : goal.overflow_sub-result
overflow_sub-result g c =
    in_order c.args.name.now c.args.rtype (g.S.SetList.sets c.args.sets.now)
    c.count_before-start.result c.end_from-end.result
    c.count_before-start.ensures c.end_from-end.ensures

pub returns : goal.returns
returns g c =
    group_at c.args.name.now c.args.rtype (g.S.SetList.sets c.args.sets.now)
    c.count_before-start.result c.end_from-end.result
    c.count_before-start.ensures c.end_from-end.ensures

pub group_beside-requires-clause-typed : goal.group_beside-requires-clause-typed
group_beside-requires-clause-typed g c =
    let count = c.count.ensures in
    let inside = c.if-place-count.true in
    let x = filled (g.S.SetList.sets c.args.sets.now) c.in-Some.place (omega (arith, count, inside)) in
    let told = c.in-Some-type_at.ensures x.0 x.1 in
    (x.0, x.1, told.0, told.1)
