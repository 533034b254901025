use Rattle.std.proofs.Common.{arith}
use Rattle.policy_select.specs.Groups.{sets_in_zone}
use Rattle.policy_select.proofs.Below.{ends_itself, exists_at}
use Rattle.policy_select.proofs.Looked.{apex_there}
use Rattle.zone_lookup.proofs.Beside.{first_below, sets_rise}
use Rattle.zone_lookup.proofs.Nearest.{nearest_itself, nearest_parent}
use Rattle.zone_lookup.proofs.standing.child_or_apex.Goals as goal

pub returns-then-is_below-clause-nearest : goal.returns-then-is_below-clause-nearest
returns-then-is_below-clause-nearest c =
    let sets = sets_in_zone c.args.zones.now.zones c.args.zone in
    nearest_itself sets c.args.name.now
    (exists_at sets c.args.name.now c.args.place (c.is_below.ensures.0 c.if-is_below.true))

pub returns-clause-nearest : goal.returns-clause-nearest
returns-clause-nearest c =
    let zones = c.args.zones.now.zones in
    let sets = sets_in_zone zones c.args.zone in
    let are = c.well_formed-2.ensures in
    let told = first_below sets c.args.name.now c.args.place
    (sets_rise zones are.each c.args.zone) c.requires.place in
    let not_so = c.if-is_below.false in
    nearest_parent sets c.args.name.now c.args.apex.now c.requires.inside c.requires.child
    (apex_there zones are c.args.zone c.args.apex.now c.requires.there c.requires.some)
    (λ there. (let below = c.is_below.ensures.1 (told.1 there) in
    absurd (grind (arith, below, not_so))))

pub returns-clause-inside : goal.returns-clause-inside
returns-clause-inside c = ends_itself c.args.apex.now
