use Rattle.std.proofs.Common.{◌≡◌, ℕ, ◌-◌, ◌<◌, ◌≤◌, List, Some, length, drop}
use Rattle.r53_cli.proofs.intake.drain.Given as goal

abbrev pub invariant-loop-budget : goal.invariant-loop-budget
invariant-loop-budget g l = record {
  room : 0 < length l.buffer;
  budget_is : l.budget ≤ l.most;
  counts : g.S.Source.faults l.fn.input ≤ g.S.Source.faults l.input;
  reads : (left : List ℕ) → g.S.Source.left l.fn.input ≡ Some left
      → (l.most - l.budget ≤ length left)
      × (g.S.Source.left l.input ≡ Some (drop (l.most - l.budget) left));
}

abbrev pub decreases-loop-budget : goal.decreases-loop-budget
decreases-loop-budget g l = l.budget
