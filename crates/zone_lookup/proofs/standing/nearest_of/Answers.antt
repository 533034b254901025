use Rattle.policy_select.specs.Groups.{sets_in_zone}
use Rattle.policy_select.proofs.Looked.{apex_there}
use Rattle.zone_lookup.proofs.Beside.{are_beside, exists_under, sets_rise}
use Rattle.zone_lookup.proofs.Nearest.{nearest_inside, nearest_itself}
use Rattle.zone_lookup.proofs.standing.nearest_of.Goals as goal

pub returns-then-is_under-clause-nearest : goal.returns-then-is_under-clause-nearest
returns-then-is_under-clause-nearest c =
    let sets = sets_in_zone c.args.zones.now.zones c.args.zone in
    nearest_itself sets c.args.name.now
    (exists_under sets c.args.place c.name_at-behind.result c.name_at-behind.ensures c.args.name.now
    (c.is_under.ensures.0 c.if-is_under.true))

pub child_or_apex-requires-clause-child : goal.child_or_apex-requires-clause-child
child_or_apex-requires-clause-child c = c.is_child.ensures.0 c.if-is_child.true

pub returns-clause-nearest : goal.returns-clause-nearest
returns-clause-nearest c =
    let zones = c.args.zones.now.zones in
    let sets = sets_in_zone zones c.args.zone in
    let are = c.well_formed-2.ensures in
    c.nearest_beside.ensures sets
    (are_beside sets c.args.name.now c.args.place c.name_before-before.result
    c.name_at-behind.result (sets_rise zones are.each c.args.zone) c.requires.place
    c.name_before-before.ensures c.name_at-behind.ensures) (
      c.args.apex.now,
      c.requires.inside,
      apex_there zones are c.args.zone c.args.apex.now
          c.requires.there c.requires.some,
    )

pub returns-clause-inside : goal.returns-clause-inside
returns-clause-inside c =
    let zones = c.args.zones.now.zones in
    let sets = sets_in_zone zones c.args.zone in
    let are = c.well_formed-2.ensures in
    let there = apex_there zones are c.args.zone c.args.apex.now c.requires.there
    c.requires.some in
    nearest_inside sets c.args.name.now c.nearest_beside.result c.args.apex.now
    (c.nearest_beside.ensures sets
    (are_beside sets c.args.name.now c.args.place c.name_before-before.result
    c.name_at-behind.result (sets_rise zones are.each c.args.zone) c.requires.place
    c.name_before-before.ensures c.name_at-behind.ensures)
    (c.args.apex.now, c.requires.inside, there)) c.requires.inside there
