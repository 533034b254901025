use Rattle.std.proofs.Common.{◌∙◌, ◌++◌, [], ◌∷◌, List, ap, arith}
use Rattle.std.proofs.lemmas.List.{length-map}
use Rattle.record_set.specs.declared.sets.RecordSet.{RecordSet}
use Rattle.zone_table.proofs.Members.{filled}
use Rattle.zone_table.specs.Zones.{placed_in}
use Rattle.zone_table.specs.Slotted.{Slotted}
use Rattle.alias_links.specs.After.{sets_in}
use Rattle.alias_links.specs.Aliases.{kept_of}
use Rattle.alias_links.proofs.Kept.{all_taken, kept_more}
use Rattle.alias_links.proofs.aliases.kept_aliases.Goals as goal

pub loop-i-preserved : goal.loop-i-preserved
loop-i-preserved c =
    let zones = c.args.zones.now.zones in
    let sets = sets_in zones c.args.zone in
    let remove = c.args.remove.now in
    let size = length-map (placed_in zones c.args.zone) (λ (p : Slotted). p.set) in
    let count = c.count-i-end.ensures in
    let lt = c.loop-i-test.true in
    let one = filled sets c.loop-i.i (omega (arith, size, count, lt)) in
    c.in_ok-keep_at.ensures one.0 one.1
    ∙ (ap (λ (l : List RecordSet). l ++ kept_of remove (one.0 ∷ [])) c.loop-i.invariant
    ∙ kept_more remove sets c.loop-i.i one.0 one.1)

pub returns : goal.returns
returns c =
    let zones = c.args.zones.now.zones in
    let sets = sets_in zones c.args.zone in
    let size = length-map (placed_in zones c.args.zone) (λ (p : Slotted). p.set) in
    let count = c.count-i-end.ensures in
    let all = c.loop-i-test.false in
    c.loop-i.invariant
    ∙ ap (λ (l : List RecordSet). kept_of c.args.remove.now l)
    (all_taken sets c.loop-i.i (omega (arith, size, count, all)))
