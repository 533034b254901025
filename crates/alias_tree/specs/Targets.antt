-- The places of target groups in a list of sets.
use Rattle.std.specs.Prelude.{◌≡◌, ◌+◌, ◌≤◌, ℕ, List, length, take, drop, slice_get, Some}
use Rattle.set_search.specs.RecordSetRecord.{RecordSet}
use Rattle.set_search.specs.Zones.{target_group}
use Rattle.alias_tree.specs.declared.targets.Target.{Target}

-- The target group of the set stands at these places, side by side.
pub record IsTargetOf (sets : List RecordSet) (set : RecordSet) (target : Target) : Type 0 where
  pub within : target.start + target.count ≤ length sets
  pub members : take target.count (drop target.start sets) ≡ target_group sets set

-- these are places of a list of n
abbrev pub AreWithin : List Target → (n : ℕ) → Type 0
AreWithin targets n =
    (i : ℕ) (target : Target) → slice_get targets i ≡ Some target → target.start + target.count ≤ n

-- The places of the target group of each set.
pub record AreTargets (sets : List RecordSet) (targets : List Target) : Type 0 where
  pub one_each : length targets ≡ length sets
  pub each : (i : ℕ) (set : RecordSet) (target : Target) → slice_get sets i ≡ Some set
      → slice_get targets i ≡ Some target → IsTargetOf sets set target
