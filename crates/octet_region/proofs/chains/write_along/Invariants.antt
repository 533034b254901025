use Rattle.std.proofs.Common.{◌≡◌, ◌+◌, ◌-◌, ◌*◌, length}
use Rattle.octet_region.specs.Cells.{cells_for, next_at}
use Rattle.octet_region.specs.Chains.{jump, IsInside, written}
use Rattle.octet_region.proofs.chains.write_along.Given as goal

abbrev pub invariant-loop-rest : goal.invariant-loop-rest
invariant-loop-rest l = record {
  inside : IsInside (next_at l.cells) (length l.cells) (cells_for (length l.rest)) l.cell;
  cells : written l.fn.cells (cells_for (length l.fn.octets)) l.fn.first l.fn.octets
      ≡ written l.cells (cells_for (length l.rest)) l.cell l.rest;
  last : jump (next_at l.fn.cells) (cells_for (length l.fn.octets) - 1) l.fn.first
      ≡ jump (next_at l.cells) (cells_for (length l.rest) - 1) l.cell;
  count : length l.rest + 32 * (cells_for (length l.fn.octets) - 1)
      ≡ length l.fn.octets + 32 * (cells_for (length l.rest) - 1);
}

abbrev pub decreases-loop-rest : goal.decreases-loop-rest
decreases-loop-rest l = length l.rest
