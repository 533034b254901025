-- What health asks of the sets and checks of a sound configuration.
use Rattle.std.specs.Prelude.{◌≡◌, ◌≢◌, ℕ, List, length, Some}
use Rattle.std.specs.List.{AllByRecursion}
use Rattle.zone_model.specs.RecordSetRecord.{RecordSet}
use Rattle.check_model.specs.Checks.{AreChildren, IsId, IsWalk, children_of}
use Rattle.zone_model.specs.Walks.{HasNoTarget, IsTooDeep}
use Rattle.zone_model.specs.Zones.{IsAmong}
use Rattle.health_model.specs.Healthy.{Watched, sets_of}

-- Children, the checks of sets, and the targets of aliases are there; there is no walk of five
-- checks, and none of 17 aliases.
pub record IsSound (watched : Watched) : Type 0 where
  pub children : AllByRecursion (λ held. AreChildren watched.checks (children_of held.1))
      watched.checks
  pub shallow : (walk : List ℕ) → IsWalk watched.checks walk → length walk ≢ 5
  pub checks : (zone : ℕ) (set : RecordSet) (id : ℕ) → IsAmong (sets_of watched zone) set
      → set.check ≡ Some id → IsId watched.checks id
  pub targets : (zone : ℕ) (set : RecordSet) → IsAmong (sets_of watched zone) set
      → HasNoTarget (sets_of watched zone) set → ⊥
  pub aliases : (zone : ℕ) (set : RecordSet) → IsAmong (sets_of watched zone) set
      → IsTooDeep (sets_of watched zone) set → ⊥
