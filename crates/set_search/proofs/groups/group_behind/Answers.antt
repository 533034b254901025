use Rattle.std.proofs.Common.{◌+◌, arith}
use Rattle.std.proofs.lemmas.Option.{slice_get_within}
use Rattle.set_search.proofs.Lookups.{filled}
use Rattle.set_search.proofs.Together.{in_order, group_at}
use Rattle.set_search.proofs.Typed.{none_at_end, none_by_name, none_by_type, past_lower}
use Rattle.set_search.proofs.groups.group_behind.Goals as goal

pub overflow_add-next : goal.overflow_add-next
overflow_add-next g c =
    let it = c.requires.lower in
    let within = slice_get_within (g.S.SetList.sets c.args.sets.now) c.args.place it.1.0 it.1.1 in
    let size = c.count-size.ensures in
    omega (arith, within, size)

pub returns-then-next-size : goal.returns-then-next-size
returns-then-next-size g c =
    let it = c.requires.lower in
    let size = c.count-size.ensures in
    let last = c.if-next-size.true in
    none_at_end c.args.name.now c.args.rtype (g.S.SetList.sets c.args.sets.now) c.requires.rising
    c.args.place it.0 it.1 it.2 (omega (arith, size, last))

pub returns-in_default : goal.returns-in_default
returns-in_default g c =
    let sets = g.S.SetList.sets c.args.sets.now in
    let it = c.requires.lower in
    let size = c.count-size.ensures in
    let more = c.if-next-size.false in
    let y = filled sets (c.args.place + 1) (omega (arith, size, more)) in
    none_by_name c.args.name.now c.args.rtype sets c.requires.rising c.args.place it.0 it.1 it.2 y.0
    y.1 (c.in_default.ensures y.0 y.1)

pub returns-then-number : goal.returns-then-number
returns-then-number g c =
    let sets = g.S.SetList.sets c.args.sets.now in
    let it = c.requires.lower in
    let size = c.count-size.ensures in
    let more = c.if-next-size.false in
    let y = filled sets (c.args.place + 1) (omega (arith, size, more)) in
    let told = c.in-Some.ensures y.0 y.1 in
    let own = told.1 in
    let higher = c.if-number.true in
    let number = c.number.ensures in
    none_by_type c.args.name.now c.args.rtype sets c.requires.rising c.args.place it.0 it.1 it.2 y.0
    y.1 told.0 (omega (arith, own, higher, number))

pub start_behind-start-requires-clause-typed : goal.start_behind-start-requires-clause-typed
start_behind-start-requires-clause-typed g c =
    let sets = g.S.SetList.sets c.args.sets.now in
    let size = c.count-size.ensures in
    let more = c.if-next-size.false in
    let y = filled sets (c.args.place + 1) (omega (arith, size, more)) in
    let told = c.in-Some.ensures y.0 y.1 in
    (y.0, y.1, told.0, told.1)

pub start_behind-start-requires-clause-before : goal.start_behind-start-requires-clause-before
start_behind-start-requires-clause-before g c =
    let it = c.requires.lower in
    past_lower c.args.name.now c.args.rtype (g.S.SetList.sets c.args.sets.now) c.requires.rising
    c.args.place it.0 it.1 it.2

pub overflow_sub-result : goal.overflow_sub-result
overflow_sub-result g c =
    in_order c.args.name.now c.args.rtype (g.S.SetList.sets c.args.sets.now)
    c.start_behind-start.result c.end_from-end.result
    c.start_behind-start.ensures c.end_from-end.ensures

pub returns : goal.returns
returns g c =
    group_at c.args.name.now c.args.rtype (g.S.SetList.sets c.args.sets.now)
    c.start_behind-start.result c.end_from-end.result
    c.start_behind-start.ensures c.end_from-end.ensures
