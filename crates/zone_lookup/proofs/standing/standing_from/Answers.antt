use Rattle.std.proofs.Common.{◌∙◌, sym}
use Rattle.zone_lookup.proofs.Nearest.{cut_of_nearest, same_cut}
use Rattle.zone_lookup.specs.Served.{zone_of}
use Rattle.zone_lookup.proofs.standing.standing_from.Goals as goal

pub returns-in-Some : goal.returns-in-Some
returns-in-Some c =
    let zones = c.args.zones.now.zones in
    cut_of_nearest zones (zone_of zones c.args.zone c.args.apex.now) c.args.name.now
    c.args.nearest.now c.in-Some.cut c.requires.nearest c.in-Some.ensures

pub returns-in-Some-source_from : goal.returns-in-Some-source_from
returns-in-Some-source_from c =
    let zones = c.args.zones.now.zones in (
      same_cut (zone_of zones c.args.zone c.args.apex.now) c.args.name.now
          c.args.nearest.now c.requires.nearest ∙ c.in_default.ensures,
      sym c.in-Some-source_from.ensures,
    )

pub returns-in-None : goal.returns-in-None
returns-in-None c =
    let zones = c.args.zones.now.zones in (
      same_cut (zone_of zones c.args.zone c.args.apex.now) c.args.name.now
          c.args.nearest.now c.requires.nearest ∙ c.in_default.ensures,
      sym c.in-None.ensures,
    )
