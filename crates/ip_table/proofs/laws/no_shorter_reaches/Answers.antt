use Rattle.ip_table.proofs.Scopes.{none_shorter}
use Rattle.ip_table.proofs.laws.no_shorter_reaches.Goals as goal

pub returns : goal.returns
returns g c = none_shorter
