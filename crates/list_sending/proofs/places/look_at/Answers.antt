use Rattle.std.proofs.Common.{sym, ◌∙◌, arith}
use Rattle.set_search.proofs.Lookups.{filled, high_down, low_up}
use Rattle.set_search.specs.declared.bounds.Bound.TheVariants.{From}
use Rattle.config_zones.proofs.Holding.{kept_in}
use Rattle.list_sending.specs.Pages.{sets_in}
use Rattle.list_sending.proofs.places.look_at.Goals as goal

pub returns-then-comes_before-clause-bracket : goal.returns-then-comes_before-clause-bracket
returns-then-comes_before-clause-bracket c =
    let zones = c.args.zones.now.zones in
    let sets = sets_in zones c.args.zone in
    let within = c.requires.bracket.within in
    let to = c.requires.to in
    let x = filled sets c.args.place (omega (arith, within, to)) in
    let kept = kept_in zones c.well_formed-2.ensures.each c.args.zone in
    low_up sets (From c.args.key.now) kept.rising c.args.low c.args.high c.args.place x.0
    c.requires.bracket c.requires.from to x.1
    (sym (c.comes_before.ensures x.0 x.1) ∙ c.if-comes_before.true)

pub returns-clause-bracket : goal.returns-clause-bracket
returns-clause-bracket c =
    let zones = c.args.zones.now.zones in
    let sets = sets_in zones c.args.zone in
    let within = c.requires.bracket.within in
    let to = c.requires.to in
    let x = filled sets c.args.place (omega (arith, within, to)) in
    let kept = kept_in zones c.well_formed-2.ensures.each c.args.zone in
    high_down sets (From c.args.key.now) kept.rising c.args.low c.args.high c.args.place x.0
    c.requires.bracket c.requires.from to x.1
    (sym (c.comes_before.ensures x.0 x.1) ∙ c.if-comes_before.false)
