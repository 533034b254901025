use Rattle.std.proofs.Common.{arith}
use Rattle.std.proofs.lemmas.Grind.{common_steps}
use Rattle.std.specs.Net.Text.{hex}
use Rattle.address_text.proofs.groups.write_group.Goals as goal

pub returns-clause-wrote : goal.returns-clause-wrote
unfolding hex
returns-clause-wrote c = grind (arith, common_steps)
