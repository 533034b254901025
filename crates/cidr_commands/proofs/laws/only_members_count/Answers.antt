use Rattle.cidr_commands.proofs.Counting.{only_members}
use Rattle.cidr_commands.proofs.laws.only_members_count.Goals as goal

pub returns : goal.returns
returns c = only_members c.one_listing.ensures c.only_named_count.ensures
