use Rattle.cidr_blocks.proofs.Names.{named}
use Rattle.cidr_blocks.proofs.laws.locations_are_names.Goals as goal

pub returns : goal.returns
returns c = named
