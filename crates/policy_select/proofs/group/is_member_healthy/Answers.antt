use Rattle.policy_select.proofs.Policies.{flag_there}
use Rattle.policy_select.proofs.group.is_member_healthy.Goals as goal

pub returns : goal.returns
returns g c =
    flag_there c.args.zones.now.zones (g.V.HealthView.test c.args.view.now) c.args.group
    c.args.slots.now c.requires.slots c.args.i c.member_at.result c.is_healthy.result
    c.member_at.ensures.zone c.member_at.ensures.slot c.is_healthy.ensures
