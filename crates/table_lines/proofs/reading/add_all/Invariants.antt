use Rattle.std.proofs.Common.{◌≡◌, ◌+◌, ◌-◌, ◌≤◌, ◌<◌, List, ℕ, Some, length, take}
use Rattle.table_lines.specs.Turns.{IsUnended, IsReadSoFar}
use Rattle.table_lines.proofs.reading.add_all.Given as goal

abbrev pub invariant-loop-budget : goal.invariant-loop-budget
invariant-loop-budget g l = record {
  room : 4096 < length l.buffer;
  short : l.len ≤ 4096;
  numbers : l.number + l.len + l.budget ≤ l.most + 1;
  budget_is : l.budget ≤ l.most;
  is_open : IsUnended (take l.len l.buffer);
  counts : g.S.Source.faults l.fn.source ≤ g.S.Source.faults l.source;
  stands : (input : List ℕ) → g.S.Source.left l.fn.source ≡ Some input
      → IsReadSoFar l.most l.fn.tables input (g.S.Source.left l.source) (l.most - l.budget) l.tables l.number
      (take l.len l.buffer);
}

abbrev pub decreases-loop-budget : goal.decreases-loop-budget
decreases-loop-budget g l = l.budget
