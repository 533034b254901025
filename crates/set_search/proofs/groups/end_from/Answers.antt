use Rattle.std.proofs.Common.{arith}
use Rattle.set_search.proofs.Beside.{none_here, none_left}
use Rattle.set_search.proofs.Lookups.{filled}
use Rattle.set_search.proofs.groups.end_from.Goals as goal

pub returns-then-start-count : goal.returns-then-start-count
returns-then-start-count g c =
    let sets = g.S.SetList.sets c.args.sets.now in
    let size = c.count.ensures in
    let last = c.if-start-count.true in
    none_left c.args.name.now c.args.rtype sets c.requires.rising c.args.start c.requires.start
    (omega (arith, size, last))

pub returns-then-not-is_of : goal.returns-then-not-is_of
returns-then-not-is_of g c =
    let sets = g.S.SetList.sets c.args.sets.now in
    let size = c.count.ensures in
    let inside = c.if-start-count.false in
    let y = filled sets c.args.start (omega (arith, size, inside)) in
    none_here c.args.name.now c.args.rtype sets c.requires.rising c.args.start c.requires.start y.0
    y.1
    (λ is. let t = (c.is_of.ensures y.0 y.1).1 is in let f = c.if-not-is_of.true in grind (arith, t, f))

pub end_of-requires-clause-member : goal.end_of-requires-clause-member
end_of-requires-clause-member g c =
    let sets = g.S.SetList.sets c.args.sets.now in
    let size = c.count.ensures in
    let inside = c.if-start-count.false in
    let y = filled sets c.args.start (omega (arith, size, inside)) in
    (y.0, y.1, (c.is_of.ensures y.0 y.1).0 (let f = c.if-not-is_of.false in grind (arith, f)))
