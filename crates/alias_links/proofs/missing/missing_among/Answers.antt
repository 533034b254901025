use Rattle.std.proofs.Common.{sym, subst, arith}
use Rattle.std.proofs.lemmas.List.{length-map}
use Rattle.record_set.specs.declared.sets.SetKey.{SetKey}
use Rattle.zone_table.proofs.Members.{filled}
use Rattle.zone_table.specs.Zones.{placed_in}
use Rattle.zone_table.specs.Slotted.{Slotted}
use Rattle.alias_links.specs.After.{changed_in, sets_in}
use Rattle.alias_links.specs.Leasts.{IsLeast, StaysWithout}
use Rattle.alias_links.proofs.Firsts.{least_of_first}
use Rattle.alias_links.proofs.Held.{sets_rise}
use Rattle.alias_links.proofs.Looping.{none_at_all, one_more}
use Rattle.alias_links.proofs.missing.missing_among.Goals as goal

pub returns-in-Some : goal.returns-in-Some
returns-in-Some c =
    let zones = c.args.zones.now.zones in
    let sets = sets_in zones c.args.zone in
    let remove = c.args.remove.now in
    let after = changed_in zones c.args.zone remove c.args.add.now in
    let size = length-map (placed_in zones c.args.zone) (λ (p : Slotted). p.set) in
    let count = c.count-i-end.ensures in
    let lt = c.loop-i-test.true in
    let one = filled sets c.loop-i.i (omega (arith, size, count, lt)) in
    let does = c.in-Some.ensures one.0 one.1 in
    subst (λ (k : SetKey). IsLeast (StaysWithout remove after) sets k) (sym does.1)
    (least_of_first (StaysWithout remove after) sets
    (sets_rise zones c.well_formed-2.ensures c.args.zone) c.loop-i.i one.0 one.1
    ((one.0, one.1, does.0), λ j below has. c.loop-i.invariant j has.0 below has.1 has.2))

pub loop-i-preserved : goal.loop-i-preserved
loop-i-preserved c =
    let zones = c.args.zones.now.zones in
    let sets = sets_in zones c.args.zone in
    let remove = c.args.remove.now in
    let after = changed_in zones c.args.zone remove c.args.add.now in
    let size = length-map (placed_in zones c.args.zone) (λ (p : Slotted). p.set) in
    let count = c.count-i-end.ensures in
    let lt = c.loop-i-test.true in
    let one = filled sets c.loop-i.i (omega (arith, size, count, lt)) in
    one_more (StaysWithout remove after) sets c.loop-i.i one.0 one.1
    (c.in_default.ensures one.0 one.1) c.loop-i.invariant

pub returns : goal.returns
returns c =
    let zones = c.args.zones.now.zones in
    let sets = sets_in zones c.args.zone in
    let remove = c.args.remove.now in
    let after = changed_in zones c.args.zone remove c.args.add.now in
    let size = length-map (placed_in zones c.args.zone) (λ (p : Slotted). p.set) in
    let count = c.count-i-end.ensures in
    let all = c.loop-i-test.false in
    none_at_all (StaysWithout remove after) sets c.loop-i.i (omega (arith, size, count, all))
    c.loop-i.invariant
