use Rattle.valve_feeds.proofs.Filters.{one_fewer}
use Rattle.valve_feeds.proofs.laws.one_feed_fewer.Goals as goal

pub returns : goal.returns
returns c = one_fewer
