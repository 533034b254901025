use Rattle.policy_select.specs.Groups.{sets_in_zone}
use Rattle.zone_lookup.proofs.Beside.{first_below, sets_rise}
use Rattle.zone_lookup.proofs.standing.exists_near.Goals as goal

pub returns : goal.returns
returns c =
    let zones = c.args.zones.now.zones in
    let told = first_below (sets_in_zone zones c.args.zone) c.args.name.now c.place_of-place.result
    (sets_rise zones c.well_formed-2.ensures.each c.args.zone) c.place_of-place.ensures in (
      λ so. told.0 (c.is_below.ensures.0 so),
      λ there. c.is_below.ensures.1 (told.1 there),
    )
