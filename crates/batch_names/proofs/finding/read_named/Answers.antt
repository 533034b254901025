use Rattle.std.proofs.Common.{◌∙◌, ◌++◌, ◌∷◌, [], List, ap, sym, arith}
use Rattle.batch_names.proofs.Runs.{so_ends, so_more}
use Rattle.zone_table.specs.Zones.{placed_in}
use Rattle.zone_table.specs.Slotted.{sets_of}
use Rattle.batch_names.proofs.finding.read_named.Goals as goal
use Rattle.std.proofs.lemmas.Option.{slice_get_within}
use Rattle.zone_table.proofs.Lists.{some_one}
use Rattle.batch_model.specs.RecordSetRecord.{RecordSet}
use Rattle.zone_table.specs.Slotted.{Slotted}
use Rattle.std.proofs.lemmas.List.{length-map}

pub loop-place-preserved : goal.loop-place-preserved
loop-place-preserved c =
    let sets = sets_of (placed_in c.args.zones.now.zones c.args.zone) in
    let here = c.if-not-hold_named.ensures in
    so_more sets c.args.name.now c.args.start c.args.found.now.items c.loop-place.place
    c.loop-place.found.items c.push.new.self.items here.0 c.loop-place.invariant here.1 here.4
    (c.in_ok-push.ensures.items
    ∙ ap (λ (found : List RecordSet). found ++ c.in_ok-read_held.field-0 ∷ []) c.in_ok-make_room.ensures
    ∙ ap (λ (s : RecordSet). c.loop-place.found.items ++ s ∷ [])
    (some_one c.in_ok-read_held.field-0 here.0 (sym c.in_ok-read_held.ensures ∙ here.2)))

pub returns : goal.returns
returns c =
    let sets = sets_of (placed_in c.args.zones.now.zones c.args.zone) in
    so_ends sets c.args.name.now c.args.start c.args.found.now.items c.loop-place.place
    c.loop-place.found.items c.loop-place.invariant
    (λ set there.
    let inside = slice_get_within sets c.loop-place.place set there in
    let many = length-map (placed_in c.args.zones.now.zones c.args.zone) (λ (p : Slotted). p.set) in
    let count = c.count-place-end.ensures in
    let past = c.loop-place-test.false in
    absurd (omega (arith, inside, many, count, past)))
