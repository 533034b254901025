use Rattle.std.proofs.Common.{ℕ, ◌<◌}
use Rattle.alias_tree.specs.Marks.{IsMarked}
use Rattle.alias_tree.proofs.first.first_marked.Given as goal

abbrev pub invariant-loop-i : goal.invariant-loop-i
invariant-loop-i l = (j : ℕ) → j < l.i → IsMarked l.marks j → ⊥
