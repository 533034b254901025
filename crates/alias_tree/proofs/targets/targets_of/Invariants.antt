use Rattle.std.proofs.Common.{◌≡◌, ℕ, length, slice_get, Some}
use Rattle.set_search.specs.RecordSetRecord.{RecordSet}
use Rattle.alias_tree.specs.Targets.{IsTargetOf}
use Rattle.alias_tree.specs.declared.targets.Target.{Target}
use Rattle.alias_tree.proofs.targets.targets_of.Given as goal

abbrev pub invariant-loop-i : goal.invariant-loop-i
invariant-loop-i l = record {
  one_each : length l.targets.items ≡ l.i;
  each : (j : ℕ) (set : RecordSet) (target : Target) → slice_get l.sets j ≡ Some set
      → slice_get l.targets.items j ≡ Some target → IsTargetOf l.sets set target;
}
