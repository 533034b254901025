use Rattle.ip_table.proofs.Scopes.{reaches}
use Rattle.ip_table.proofs.laws.scope_reaches.Goals as goal

pub returns : goal.returns
returns g c = reaches
