use Rattle.cidr_blocks.proofs.Listed.{one_listing}
use Rattle.cidr_blocks.proofs.laws.one_listing.Goals as goal

pub returns : goal.returns
returns c = one_listing
