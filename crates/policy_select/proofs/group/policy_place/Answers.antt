use Rattle.std.proofs.Common.{refl}
use Rattle.policy_select.proofs.Policies.{placed}
use Rattle.policy_select.proofs.group.policy_place.Goals as goal

pub returns : goal.returns
returns c =
    placed c.args.scratch.now c.bytes.result.now c.policy.result.now _ refl c.bytes.ensures
    c.policy.ensures
