-- Where walks of so many links start.
use Rattle.std.specs.Prelude.{◌≡◌, ◌↔◌, ℕ, List, length, Bool, slice_get, Some}
use Rattle.set_search.specs.RecordSetRecord.{RecordSet}
use Rattle.set_search.specs.Walks.{StartsWalk}
use Rattle.alias_tree.specs.Marks.{IsMarked}

-- The marks are at the sets at which a walk of n links starts.
pub record AreStarts (sets : List RecordSet) (n : ℕ) (marks : List Bool) : Type 0 where
  pub one_each : length marks ≡ length sets
  pub each : (i : ℕ) (set : RecordSet) → slice_get sets i ≡ Some set
      → IsMarked marks i ↔ StartsWalk sets set n
