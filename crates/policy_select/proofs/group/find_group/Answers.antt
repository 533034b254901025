use Rattle.policy_select.proofs.Targets.{found_count, found_now, found_sets}
use Rattle.policy_select.proofs.group.find_group.Goals as goal

pub returns : goal.returns
returns c =
    let zones = c.args.zones.now.zones in
    let is = c.group.ensures in
    record {
      now = found_now zones c.args.zone c.args.name.now c.args.rtype c.group.result is;
      zone = is.zone;
      sets = found_sets zones c.args.zone c.args.name.now c.args.rtype c.group.result is;
      count = found_count zones c.args.zone c.args.name.now c.args.rtype c.group.result is;
    }
