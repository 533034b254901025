use Rattle.std.proofs.Common.{◌+◌, ◌<◌, ap, sym, ◌∙◌, arith, length, take}
use Rattle.octet_region.specs.Chains.{octets_in}
use Rattle.octet_region.proofs.Pieces.{last_length, too_few}
use Rattle.octet_region.proofs.reads.is_within.Goals as goal

pub returns-then-from-ge-CELL : goal.returns-then-from-ge-CELL
returns-then-from-ge-CELL c =
    let cells = c.args.cells.now in
    let s = c.skip_to-cell.ensures in
    let cell = c.skip_to-cell.result.0 in
    let from = c.skip_to-cell.result.1 in
    let octets = c.args.octets.now in
    let last = s.near c.if-from-ge-CELL.true in
    let some : 0 < length octets = omega (arith, c.if-octets-eq0.false) in
    let short : length (octets_in cells cell) < from + length octets =
    omega (arith, last_length cells cell s.chain last, last, c.if-from-ge-CELL.true, some) in (
      (λ f. cc),
      (λ h. absurd
          (too_few cells cell s.chain from octets some short (ap (take (length octets)) (sym s.same) ∙ h))),
    )
