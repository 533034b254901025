use Rattle.std.proofs.Common.{◌≡◌, ℕ, ◌<◌, length, slice_get, Some}
use Rattle.std.specs.Prelude.{◌↔◌}
use Rattle.alias_tree.specs.Marks.{IsMarked, IsMarkedWithin}
use Rattle.alias_tree.specs.declared.targets.Target.{Target}
use Rattle.alias_tree.proofs.rounds.lead_on.Given as goal

abbrev pub invariant-loop-i : goal.invariant-loop-i
invariant-loop-i l = record {
  one_each : length l.next ≡ length l.targets;
  each : (j : ℕ) (target : Target) → j < l.i → slice_get l.targets j ≡ Some target
      → IsMarked l.next j ↔ IsMarkedWithin l.marks target;
}
