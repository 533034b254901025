use Rattle.std.proofs.Common.{◌≡◌, ℕ, ◌<◌, length, slice_get, Some}
use Rattle.std.specs.Prelude.{◌↔◌}
use Rattle.set_search.specs.Reasons.{IsAlias}
use Rattle.set_search.specs.RecordSetRecord.{RecordSet}
use Rattle.alias_tree.specs.Marks.{IsMarked}
use Rattle.alias_tree.proofs.walks.aliases_of.Given as goal

abbrev pub invariant-loop-i : goal.invariant-loop-i
invariant-loop-i l = record {
  one_each : length l.starts.items ≡ l.i;
  each : (j : ℕ) (set : RecordSet) → j < l.i → slice_get l.sets j ≡ Some set
      → IsMarked l.starts.items j ↔ IsAlias set.body;
}
