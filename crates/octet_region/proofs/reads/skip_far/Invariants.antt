use Rattle.std.proofs.Common.{◌≡◌, ◌+◌, ◌%◌, drop, length}
use Rattle.octet_region.specs.Chains.{octets_in}
use Rattle.octet_region.specs.Shape.{IsChain}
use Rattle.octet_region.proofs.reads.skip_far.Given as goal

abbrev pub invariant-loop-from : goal.invariant-loop-from
invariant-loop-from l = record {
  chain : IsChain l.cells l.cell;
  place : l.from % 32 ≡ l.fn.place % 32;
  count : length (octets_in l.cells l.cell) + l.fn.place ≡ length (octets_in l.cells l.fn.first) + l.from;
  same : drop l.fn.place (octets_in l.cells l.fn.first) ≡ drop l.from (octets_in l.cells l.cell);
}

abbrev pub decreases-loop-from : goal.decreases-loop-from
decreases-loop-from l = l.from
