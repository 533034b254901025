use Rattle.std.proofs.Common.{◌+◌, ◌<◌, ◌≤◌, ◌↔◌, length}
use Rattle.octet_region.specs.Chains.{octets_in}
use Rattle.octet_region.specs.Shape.{IsChain}
use Rattle.octet_region.proofs.reads.reaches.Given as goal

abbrev pub invariant-loop-from : goal.invariant-loop-from
invariant-loop-from l = record {
  chain : IsChain l.cells l.cell;
  near : l.from < 32;
  same : (l.fn.offset + l.fn.count ≤ length (octets_in l.cells l.fn.first))
      ↔ (l.from + l.left ≤ length (octets_in l.cells l.cell));
}

abbrev pub decreases-loop-from : goal.decreases-loop-from
decreases-loop-from l = l.left
