use Rattle.std.proofs.Common.{◌≡◌, ◌≤◌, ◌<◌, ◌+◌, ◌-◌, ◌++◌, length, take, drop}
use Rattle.octet_region.specs.Chains.{octets_in}
use Rattle.octet_region.specs.Shape.{IsChain}
use Rattle.octet_region.proofs.reads.copy_along.Given as goal

abbrev pub invariant-loop-from : goal.invariant-loop-from
invariant-loop-from l = record {
  chain : IsChain l.cells l.cell;
  near : l.from < 32;
  order : l.at ≤ length l.into;
  long : length l.into ≡ length l.fn.into;
  fits : l.from + (length l.into - l.at) ≤ length (octets_in l.cells l.cell);
  copied : take l.at l.into ++ take (length l.into - l.at) (drop l.from (octets_in l.cells l.cell))
      ≡ take (length l.fn.into) (drop l.fn.offset (octets_in l.cells l.fn.first));
}

abbrev pub decreases-loop-from : goal.decreases-loop-from
decreases-loop-from l = length l.into - l.at
