use Rattle.cell_lists.proofs.Linking.{owner_more}
use Rattle.cell_lists.proofs.lists.CellLists.push_owner.Goals as goal

pub invariant_of-self : goal.invariant_of-self
invariant_of-self c = rw c.push_reserved.ensures.items (owner_more _ _ _ c.self.invariant)
