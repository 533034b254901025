use Rattle.std.proofs.Common.{◌/◌, ap, ◌∙◌, take}
use Rattle.std.specs.Prelude.{min}
use Rattle.octet_region.specs.Cells.{number_at}
use Rattle.octet_region.proofs.Pieces.{front_is}
use Rattle.octet_region.proofs.reads.front_in.Goals as goal

pub returns : goal.returns
returns c =
    let cells = c.args.cells.now in
    let first = c.args.first in
    c.front.ensures
    ∙ ap (λ k. take k c.octets_at.result.now) (c.count_of.ensures ∙ ap (λ n. min (n / 2) 32) c.link_at.ensures)
    ∙ ap (take (min (number_at cells first) 32)) c.octets_at.ensures.value
    ∙ front_is cells first c.requires
