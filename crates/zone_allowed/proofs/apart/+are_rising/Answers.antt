use Rattle.zone_allowed.proofs.Rises.{rising_in}
use Rattle.zone_allowed.proofs.apart.+are_rising.Goals as goal

pub returns-then-is_before_first : goal.returns-then-is_before_first
returns-then-is_before_first t c h =
    rising_in c.args.sets.now c.in-Some.others.now c.in-Some.first.now c.in-Some.ensures.cases.0
    (c.are_rising.ensures h) (c.is_before_first.ensures c.if-is_before_first.true)
