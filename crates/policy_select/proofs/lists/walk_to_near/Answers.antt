use Rattle.std.proofs.Common.{arith}
use Rattle.policy_select.specs.Groups.{sets_in}
use Rattle.policy_select.proofs.Nearby.{one_more}
use Rattle.policy_select.proofs.lists.walk_to_near.Goals as goal

pub loop-i-init : goal.loop-i-init
loop-i-init c first k low high = absurd (omega (arith, low, high))

pub loop-i-preserved : goal.loop-i-preserved
loop-i-preserved c first =
    one_more c.args.country first (sets_in c.args.zones.now.zones c.args.group.now) c.args.from c.loop-i.i
    (c.loop-i.invariant first) (c.is_passed_by.ensures c.if-not-is_passed_by.false first)
