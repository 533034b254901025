use Rattle.std.proofs.Common.{ap, ◌∙◌}
use Rattle.octet_region.specs.Shape.{held_in}
use Rattle.octet_region.specs.Stored.{Stored}
use Rattle.octet_region.proofs.Held.{held_same}
use Rattle.octet_region.proofs.region.Region.reserve.Goals as goal

pub returns-clause-held : goal.returns-clause-held
returns-clause-held c =
    held_same c.make_room.new.cells.items c.give_cells-self-inside.new.cells.items
    c.give_cells-self-inside.ensures.same
    ∙ ap held_in c.make_room.ensures.items
    ∙ ap (λ (s : Stored). s.held) c.self.view_is
