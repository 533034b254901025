use Rattle.page_laws.proofs.Places.{pages_follow as holds}
use Rattle.page_laws.proofs.laws.pages_follow.Goals as goal

pub returns : goal.returns
returns c = holds c.keys_are_ordered.ensures
