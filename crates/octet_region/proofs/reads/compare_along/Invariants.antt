use Rattle.std.proofs.Common.{◌≡◌, ◌<◌, ◌↔◌, length, take, drop}
use Rattle.octet_region.specs.Chains.{octets_in}
use Rattle.octet_region.specs.Shape.{IsChain}
use Rattle.octet_region.proofs.reads.compare_along.Given as goal

abbrev pub invariant-loop-from : goal.invariant-loop-from
invariant-loop-from l = record {
  chain : IsChain l.cells l.cell;
  near : l.from < 32;
  some : 0 < length l.rest;
  same : (take (length l.fn.octets) (drop l.fn.offset (octets_in l.cells l.fn.first)) ≡ l.fn.octets)
      ↔ (take (length l.rest) (drop l.from (octets_in l.cells l.cell)) ≡ l.rest);
}

abbrev pub decreases-loop-from : goal.decreases-loop-from
decreases-loop-from l = length l.rest
