use Rattle.std.proofs.Common.{◌≡◌, ◌+◌}
use Rattle.octet_region.specs.Cells.{link_at, next_at}
use Rattle.octet_region.specs.Chains.{jump, steps_in}
use Rattle.octet_region.specs.Shape.{IsChain}
use Rattle.octet_region.proofs.chains.last_along.Given as goal

abbrev pub invariant-loop-cell : goal.invariant-loop-cell
invariant-loop-cell l = record {
  chain : IsChain l.cells l.cell;
  link : l.link ≡ link_at l.cells l.cell;
  last : jump (next_at l.cells) (steps_in l.cells l.fn.first) l.fn.first
      ≡ jump (next_at l.cells) (steps_in l.cells l.cell) l.cell;
  count : l.count + steps_in l.cells l.cell ≡ steps_in l.cells l.fn.first + 1;
}

abbrev pub decreases-loop-cell : goal.decreases-loop-cell
decreases-loop-cell l = steps_in l.cells l.cell
