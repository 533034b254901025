use Rattle.std.proofs.Common.{◌-◌, arith}
use Rattle.std.proofs.lemmas.Option.{slice_get_within}
use Rattle.set_search.proofs.Beside.{from_first, from_here}
use Rattle.set_search.proofs.Lookups.{filled}
use Rattle.set_search.proofs.groups.start_of.Goals as goal

pub is_with-requires-clause-place : goal.is_with-requires-clause-place
is_with-requires-clause-place g c =
    let member = c.requires.member in
    let within = slice_get_within (g.S.SetList.sets c.args.sets.now) c.args.place member.0 member.1 in
    omega (arith, within)

pub returns-then-place-eq0 : goal.returns-then-place-eq0
returns-then-place-eq0 g c =
    from_first c.args.name.now c.args.rtype (g.S.SetList.sets c.args.sets.now) c.requires.rising
    c.args.place c.requires.member c.if-place-eq0.true

pub returns-then-not-is_with : goal.returns-then-not-is_with
returns-then-not-is_with g c =
    let sets = g.S.SetList.sets c.args.sets.now in
    let member = c.requires.member in
    let within = slice_get_within sets c.args.place member.0 member.1 in
    let some = c.if-place-eq0.false in
    let y = filled sets (c.args.place - 1) (omega (arith, within)) in
    from_here c.args.name.now c.args.rtype sets c.requires.rising c.args.place member y.0
    (omega (arith, some)) y.1
    (λ is. let t = (c.is_with.ensures y.0 y.1).1 is in let f = c.if-not-is_with.true in grind (arith, t, f))
