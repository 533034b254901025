use Rattle.std.proofs.Common.{◌+◌, ◌-◌, ◌/◌, ◌<◌, arith}
use Rattle.set_search.proofs.Beside.{ends_before, ends_later}
use Rattle.set_search.proofs.Lookups.{filled}
use Rattle.set_search.proofs.groups.end_between.Goals as goal

pub loop-last-preserved-then-is_of : goal.loop-last-preserved-then-is_of
loop-last-preserved-then-is_of g c =
    let sets = g.S.SetList.sets c.args.sets.now in
    let last = c.loop-last.last in
    let high = c.loop-last.high in
    let middle = last + (high - last) / 2 in
    let more = c.loop-last-test.true in
    let below : middle < high = omega (arith, more) in
    let inside = c.loop-last.invariant.bracket.within in
    let y = filled sets middle (omega (arith, below, inside)) in
    ends_later c.args.name.now c.args.rtype sets c.requires.rising last high middle below
    c.loop-last.invariant (y.0, y.1, (c.is_of.ensures y.0 y.1).0 c.if-is_of.true)

pub loop-last-preserved : goal.loop-last-preserved
loop-last-preserved g c =
    let sets = g.S.SetList.sets c.args.sets.now in
    let last = c.loop-last.last in
    let high = c.loop-last.high in
    let middle = last + (high - last) / 2 in
    let more = c.loop-last-test.true in
    let below : middle < high = omega (arith, more) in
    let inside = c.loop-last.invariant.bracket.within in
    let y = filled sets middle (omega (arith, below, inside)) in
    ends_before c.args.name.now c.args.rtype sets c.requires.rising last c.loop-last.invariant.member
    middle y.0 (omega (arith, more)) y.1
    (λ is. let t = (c.is_of.ensures y.0 y.1).1 is in let f = c.if-is_of.false in grind (arith, t, f))
