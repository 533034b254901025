use Rattle.std.proofs.Common.{◌<◌, ap}
use Rattle.std.proofs.lemmas.List.Elements.{All-drop}
use Rattle.cell_lists.specs.Lists.{Lists}
use Rattle.cell_lists.proofs.Linking.{within_as_told}
use Rattle.cell_lists.proofs.lists.CellLists.cells.Goals as goal

pub returns-clause-within : goal.returns-clause-within
returns-clause-within c =
    All-drop (λ cell. cell < c.args.self.now.cells) _ _
    (within_as_told _ _ _ c.args.self.now c.args.owner c.self.invariant
    (ap (λ (s : Lists). s.lists) c.self.view_is) (ap (λ (s : Lists). s.cells) c.self.view_is))
