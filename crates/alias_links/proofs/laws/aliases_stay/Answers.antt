use Rattle.alias_links.proofs.Walking.{stay}
use Rattle.alias_links.proofs.laws.aliases_stay.Goals as goal

pub returns : goal.returns
returns c = stay
