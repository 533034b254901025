use Rattle.ip_table.proofs.Scopes.{one}
use Rattle.ip_table.proofs.laws.one_row_found.Goals as goal

pub returns : goal.returns
returns g c = one
