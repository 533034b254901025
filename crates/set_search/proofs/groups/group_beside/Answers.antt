use Rattle.std.proofs.Common.{arith}
use Rattle.set_search.proofs.Together.{in_order, group_at}
use Rattle.set_search.proofs.Typed.{of_both}
use Rattle.set_search.proofs.groups.group_beside.Goals as goal

pub group_round-requires-clause-member : goal.group_round-requires-clause-member
group_round-requires-clause-member g c =
    let typed = c.requires.typed in
    let same = c.if-number.true in
    let number = c.number.ensures in (
      typed.0,
      typed.1,
      of_both c.args.name.now c.args.rtype (g.S.SetList.sets c.args.sets.now) c.requires.rising
          c.args.place c.args.number typed (omega (arith, same, number)),
    )

pub group_behind-requires-clause-lower : goal.group_behind-requires-clause-lower
group_behind-requires-clause-lower g c =
    let lower = c.if-number-2.true in
    let number = c.number-2.ensures in
    (c.args.number, c.requires.typed, omega (arith, lower, number))

pub start_in_front-start-requires-clause-higher : goal.start_in_front-start-requires-clause-higher
start_in_front-start-requires-clause-higher g c =
    let other = c.if-number.false in
    let higher = c.if-number-2.false in
    let number = c.number.ensures in
    let again = c.number-2.ensures in
    (c.args.number, c.requires.typed, omega (arith, other, higher, number, again))

pub overflow_sub-result : goal.overflow_sub-result
overflow_sub-result g c =
    in_order c.args.name.now c.args.rtype (g.S.SetList.sets c.args.sets.now)
    c.start_in_front-start.result c.end_from-end.result
    c.start_in_front-start.ensures c.end_from-end.ensures

pub returns : goal.returns
returns g c =
    group_at c.args.name.now c.args.rtype (g.S.SetList.sets c.args.sets.now)
    c.start_in_front-start.result c.end_from-end.result
    c.start_in_front-start.ensures c.end_from-end.ensures
