use Rattle.std.proofs.Common.{◌<◌, length}
use Rattle.std.proofs.lemmas.List.Elements.{All-rest}
use Rattle.valve_feeds.proofs.walk.FeedersWalkIterator.next.Goals as goal

pub invariant_of-self-2 : goal.invariant_of-self-2
invariant_of-self-2 c =
    All-rest (λ cell. cell < length c.self.inside.ends.now) c.in-Some.cell c.next.new.self c.self.inside.cells
    c.in-Some.ensures.steps c.self.invariant
