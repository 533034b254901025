use Rattle.zone_list.proofs.Listing.{its_placed}
use Rattle.zone_table.proofs.laws.sets_of_one.Goals as goal

pub returns : goal.returns
returns c = λ zones zone listed there. its_placed zones listed zone there
