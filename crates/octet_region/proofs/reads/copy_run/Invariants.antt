use Rattle.std.proofs.Common.{◌≡◌, ◌+◌, ◌++◌, length, take, drop}
use Rattle.octet_region.specs.Cells.{link_at}
use Rattle.octet_region.specs.Chains.{octets_in, steps_in}
use Rattle.octet_region.specs.Shape.{IsChain}
use Rattle.octet_region.proofs.reads.copy_run.Given as goal

abbrev pub invariant-loop-into : goal.invariant-loop-into
invariant-loop-into l = record {
  chain : IsChain l.cells l.cell;
  link : l.link ≡ link_at l.cells l.cell;
  size : l.at + length (octets_in l.cells l.cell) ≡ length (octets_in l.cells l.fn.first);
  long : length l.into ≡ length l.fn.into;
  copied : take l.at l.into ++ octets_in l.cells l.cell ≡ octets_in l.cells l.fn.first;
  tail : drop l.at l.into ≡ drop l.at l.fn.into;
}

abbrev pub decreases-loop-into : goal.decreases-loop-into
decreases-loop-into l = steps_in l.cells l.cell
