use Rattle.std.proofs.Common.{◌≡◌, ◌∙◌, ap, arith, refl, Some}
use Rattle.config_edits.proofs.Holding.{held_there, named}
use Rattle.config_edits.specs.RecordSetRecord.{RecordSet}
use Rattle.config_edits.specs.WatchRecord.{Watch}
use Rattle.config_zones.proofs.looking.check_at.Goals as goal

pub unreachable-requires-in-None : goal.unreachable-requires-in-None
unreachable-requires-in-None c =
    let at = c.in-Some.ensures in
    c.in-None.ensures at.1.0
    (named c.args.zones.now.zones c.well_formed-2.ensures c.args.zone c.args.i c.in-Some.set at.0
    at.1)

pub returns : goal.returns
returns c = λ set there.
    let at = c.in-Some.ensures in
    let told = c.in-Some-watch.ensures in
    let held = held_there c.args.zones.now.zones c.well_formed-2.ensures c.args.zone c.args.i
    c.in-Some.set at.0 at.1 (Some told.0) (told.0, told.1, refl) in
    let one : told.0 ≡ set = (let a = held.1 in let b = held.2 in grind (arith, a, b, there)) in
    ap (λ (w : Watch). w.check) told.2 ∙ ap (λ (s : RecordSet). s.check) one
