use Rattle.std.proofs.Common.{◌+◌, ◌-◌, ◌≤◌, length, drop}
use Rattle.table_lines.specs.Turns.{GoesOn}
use Rattle.table_lines.proofs.waiting.take_lines.Given as goal

abbrev pub invariant-loop-n : goal.invariant-loop-n
invariant-loop-n l = record {
  within : l.start ≤ length l.waiting;
  numbers : l.number ≤ l.first + l.start;
  so_far : GoesOn l.fn.tables l.fn.first l.waiting l.tables l.number (drop l.start l.waiting);
}

abbrev pub decreases-loop-n : goal.decreases-loop-n
decreases-loop-n l = length l.waiting - l.start
