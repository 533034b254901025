use Rattle.std.proofs.Common.{Some}
use Rattle.policy_select.specs.Groups.{sets_in_zone}
use Rattle.policy_select.proofs.Below.{ends_itself}
use Rattle.zone_lookup.proofs.Beside.{exists_under}
use Rattle.zone_lookup.proofs.standing.has_set_at.Goals as goal

pub returns-clause-exists : goal.returns-clause-exists
returns-clause-exists c = λ so.
    let name = c.args.name.now in
    exists_under (sets_in_zone c.args.zones.now.zones c.args.zone) c.args.place (Some name)
    (c.has_name.ensures.0 so) name (ends_itself name)
