use Rattle.std.proofs.Common.{sym, ◌∙◌, arith}
use Rattle.set_search.specs.Stops.{bound_of}
use Rattle.set_search.proofs.Lookups.{filled, low_up, high_down}
use Rattle.set_search.proofs.searching.look_at.Goals as goal

pub returns-then-is_before-clause-bracket : goal.returns-then-is_before-clause-bracket
returns-then-is_before-clause-bracket g c =
    let sets = g.S.SetList.sets c.args.sets.now in
    let within = c.requires.bracket.within in
    let to = c.requires.to in
    let x = filled sets c.args.place (omega (arith, within, to)) in
    low_up sets (bound_of c.args.stop.now) c.requires.rising c.args.low c.args.high c.args.place x.0
    c.requires.bracket c.requires.from to x.1 (sym (c.is_before.ensures x.0 x.1) ∙ c.if-is_before.true)

pub returns-clause-bracket : goal.returns-clause-bracket
returns-clause-bracket g c =
    let sets = g.S.SetList.sets c.args.sets.now in
    let within = c.requires.bracket.within in
    let to = c.requires.to in
    let x = filled sets c.args.place (omega (arith, within, to)) in
    high_down sets (bound_of c.args.stop.now) c.requires.rising c.args.low c.args.high c.args.place x.0
    c.requires.bracket c.requires.from to x.1 (sym (c.is_before.ensures x.0 x.1) ∙ c.if-is_before.false)
