use Rattle.std.proofs.Common.{ap, arith, length}
use Rattle.octet_region.specs.Cells.{number_at, begin_at}
use Rattle.octet_region.specs.Stored.{Stored}
use Rattle.octet_region.proofs.Regions.{known_below}
use Rattle.octet_region.proofs.Shapes.{spare_few}
use Rattle.octet_region.proofs.region.Region.cells.Goals as goal

pub returns-clause-below : goal.returns-clause-below
returns-clause-below c = λ handle octets live.
    let below =
    known_below c.self.inside.cells.items c.args.self.now c.self.inside.free c.self.inside.spare handle
    octets
    c.self.invariant (ap (λ (s : Stored). s.held) c.self.view_is) live in
    omega (arith, below, c.len.ensures)

pub returns-clause-spare : goal.returns-clause-spare
returns-clause-spare c =
    let items = c.self.inside.cells.items in
    let few =
    spare_few (number_at items) (begin_at items) (length items) c.self.inside.free c.self.inside.spare
    c.self.invariant.shape in
    omega (arith, few, c.len.ensures, ap (λ (s : Stored). s.spare) c.self.view_is)
