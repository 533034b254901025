use Rattle.std.proofs.Common.{◌≡◌, ◌+◌, length}
use Rattle.octet_region.specs.Chains.{octets_in, steps_in}
use Rattle.octet_region.specs.Shape.{IsChain}
use Rattle.octet_region.proofs.reads.size_along.Given as goal

abbrev pub invariant-loop-cell : goal.invariant-loop-cell
invariant-loop-cell l = record {
  chain : IsChain l.cells l.cell;
  size : l.size + length (octets_in l.cells l.cell) ≡ length (octets_in l.cells l.fn.first);
}

abbrev pub decreases-loop-cell : goal.decreases-loop-cell
decreases-loop-cell l = steps_in l.cells l.cell
