use Rattle.policy_select.proofs.Targets.{found_now, found_sets}
use Rattle.zone_lookup.proofs.standing.find_typed.Goals as goal

pub returns-then-found-gt0 : goal.returns-then-found-gt0
returns-then-found-gt0 c =
    let zones = c.args.zones.now.zones in
    let is = c.group-found.ensures in record {
      group = found_now zones c.args.zone c.args.name.now c.args.rtype c.group-found.result is;
      in_zone = is.zone;
      some = c.if-found-gt0.true;
      sets = found_sets zones c.args.zone c.args.name.now c.args.rtype c.group-found.result is;
    }
