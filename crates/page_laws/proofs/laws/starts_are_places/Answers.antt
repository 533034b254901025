use Rattle.page_laws.proofs.Places.{starts_are_places as holds}
use Rattle.page_laws.proofs.laws.starts_are_places.Goals as goal

pub returns : goal.returns
returns c = holds
