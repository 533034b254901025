use Rattle.zone_lookup.proofs.Finding.{it_holds, none_holds}
use Rattle.zone_lookup.proofs.hosting.find_zone.Goals as goal

pub returns-in-Some : goal.returns-in-Some
returns-in-Some c = record {
  there = c.in-Some.ensures.1;
  zone = it_holds c.args.zones.now.zones c.well_formed-2.ensures c.zones_are_longest.ensures
      c.args.name.now c.in-Some.found.0 c.in-Some.found.1.now c.in-Some.ensures.0 c.in-Some.ensures.1;
}

pub returns-in-None : goal.returns-in-None
returns-in-None c =
    none_holds c.args.zones.now.zones c.well_formed-2.ensures c.zones_are_longest.ensures
    c.args.name.now c.in-None.ensures
