use Rattle.alias_links.proofs.Coming.{come}
use Rattle.alias_links.proofs.laws.aliases_come.Goals as goal

pub returns : goal.returns
returns c = come
