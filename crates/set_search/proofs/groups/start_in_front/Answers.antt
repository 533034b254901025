use Rattle.std.proofs.Common.{◌-◌, arith}
use Rattle.std.proofs.lemmas.Option.{slice_get_within}
use Rattle.set_search.proofs.Lookups.{filled}
use Rattle.set_search.proofs.Typed.{starts_first, starts_here}
use Rattle.set_search.proofs.groups.start_in_front.Goals as goal

pub returns-then-place-eq0 : goal.returns-then-place-eq0
returns-then-place-eq0 g c =
    let it = c.requires.higher in
    starts_first c.args.name.now c.args.rtype (g.S.SetList.sets c.args.sets.now) c.requires.rising
    c.args.place it.0 it.1 c.if-place-eq0.true it.2

pub type_at-requires : goal.type_at-requires
type_at-requires g c =
    let it = c.requires.higher in
    let within = slice_get_within (g.S.SetList.sets c.args.sets.now) c.args.place it.1.0 it.1.1 in
    omega (arith, within)

pub returns-in_default : goal.returns-in_default
returns-in_default g c =
    let sets = g.S.SetList.sets c.args.sets.now in
    let it = c.requires.higher in
    let within = slice_get_within sets c.args.place it.1.0 it.1.1 in
    let some = c.if-place-eq0.false in
    let y = filled sets (c.args.place - 1) (omega (arith, within)) in
    starts_here c.args.name.now c.args.rtype sets c.requires.rising c.args.place it.0 it.1 it.2 y.0
    (omega (arith, some)) y.1 (c.in_default.ensures y.0 y.1)
