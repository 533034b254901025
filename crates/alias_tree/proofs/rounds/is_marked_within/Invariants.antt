use Rattle.std.proofs.Common.{ℕ, ◌<◌, ◌≤◌}
use Rattle.alias_tree.specs.Marks.{IsMarked}
use Rattle.alias_tree.proofs.rounds.is_marked_within.Given as goal

abbrev pub invariant-loop-i : goal.invariant-loop-i
invariant-loop-i l = (j : ℕ) → l.fn.target.start ≤ j → j < l.i → IsMarked l.marks j → ⊥
