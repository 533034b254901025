use Rattle.std.proofs.Common.{◌-◌, ◌%◌, ap, ◌∙◌, arith, take, drop}
use Rattle.std.specs.Prelude.{min}
use Rattle.octet_region.specs.Cells.{link_at, number_at}
use Rattle.octet_region.proofs.Pieces.{count_is, piece_is, piece_none}
use Rattle.octet_region.proofs.reads.piece_from.Goals as goal

pub returns-then-from-count : goal.returns-then-from-count
returns-then-from-count c =
    let cells = c.args.cells.now in
    let first = c.args.first in
    let count = count_is c.count_of-count.result c.link_at.result (link_at cells first) c.count_of-count.ensures
    c.link_at.ensures in
    piece_none cells first c.requires.chain c.args.from (32 - c.args.from % 32)
    (omega (arith, count, c.if-from-count.true)) c.requires.near

pub returns : goal.returns
returns c =
    let cells = c.args.cells.now in
    let first = c.args.first in
    let count = count_is c.count_of-count.result c.link_at.result (link_at cells first) c.count_of-count.ensures
    c.link_at.ensures in
    c.behind.ensures
    ∙ ap (drop c.args.from)
    (c.front.ensures
    ∙ ap (λ k. take k c.octets_at.result.now) count
    ∙ ap (take (min (number_at cells first) 32)) c.octets_at.ensures.value)
    ∙ piece_is cells first c.requires.chain c.args.from (omega (arith, count, c.if-from-count.false))
