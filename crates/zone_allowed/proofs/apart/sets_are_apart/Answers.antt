use Rattle.zone_allowed.proofs.Rises.{rising_differ}
use Rattle.zone_allowed.proofs.apart.sets_are_apart.Goals as goal

pub returns-then-are_rising : goal.returns-then-are_rising
returns-then-are_rising c = (
  λ h. rising_differ c.args.sets.now (c.are_rising.ensures h),
  λ differ. c.if-are_rising.true,
)
