use Rattle.set_search.proofs.Together.{in_order, group_at}
use Rattle.set_search.proofs.groups.group_round.Goals as goal

pub overflow_sub-result : goal.overflow_sub-result
overflow_sub-result g c =
    in_order c.args.name.now c.args.rtype (g.S.SetList.sets c.args.sets.now)
    c.start_of-start.result c.end_of-end.result
    c.start_of-start.ensures c.end_of-end.ensures

pub returns : goal.returns
returns g c =
    group_at c.args.name.now c.args.rtype (g.S.SetList.sets c.args.sets.now)
    c.start_of-start.result c.end_of-end.result
    c.start_of-start.ensures c.end_of-end.ensures
