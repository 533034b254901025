use Rattle.std.proofs.Common.{◌≡◌, ℕ, ◌-◌, ◌≤◌, List, Some, length}
use Rattle.r53_cli.specs.Streams.{Fills}
use Rattle.r53_cli.proofs.intake.fill.Given as goal

abbrev pub invariant-loop-at : goal.invariant-loop-at
invariant-loop-at g l = record {
  within : l.at ≤ length l.buffer;
  counts : g.S.Source.faults l.fn.input ≤ g.S.Source.faults l.input;
  reads : (left : List ℕ) → g.S.Source.left l.fn.input ≡ Some left
      → Fills left (g.S.Source.left l.input) l.at l.buffer;
}

abbrev pub decreases-loop-at : goal.decreases-loop-at
decreases-loop-at g l = length l.buffer - l.at
