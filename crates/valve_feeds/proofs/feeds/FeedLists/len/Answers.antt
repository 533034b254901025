use Rattle.std.proofs.Common.{subst}
use Rattle.valve_feeds.specs.Feeds.{AreReversed}
use Rattle.valve_feeds.proofs.Seen.{reversed}
use Rattle.valve_feeds.proofs.feeds.FeedLists.len.Goals as goal

pub returns-clause-reversed : goal.returns-clause-reversed
returns-clause-reversed c =
    subst AreReversed c.self.view_is
    (reversed c.self.inside.ends _ _ c.self.invariant c.len.ensures.apart c.len-2.ensures.apart)
