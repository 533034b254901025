-- What is kept where the checks of a configuration change.
use Rattle.std.specs.Prelude.{◌≡◌, ◌≤◌, ◌<◌, ◌⊎◌, ℕ, List, Option, None, Some, slice_get, ⊤}
use Rattle.std.specs.List.{AllByRecursion}
use Rattle.check_model.specs.Checks.{Checks, IdsRise, check_with}
use Rattle.check_model.specs.declared.checks.Check.{Check}
use Rattle.check_model.specs.declared.checks.Check.TheVariants.{Endpoint, Calculated}
use Rattle.checker_state.specs.Standing.{Seen}
use Rattle.health_model.specs.Statuses.{AreReports, Report}
use Rattle.health_planning.specs.Building.{AreSeen}
use Rattle.health_planning.specs.Wired.{ids_of}

-- the check of an endpoint with this threshold
abbrev pub HasThreshold : Option Check → (threshold : ℕ) → Type 0
HasThreshold None n = ⊥
HasThreshold (Some (Endpoint threshold inverted disabled)) n = threshold ≡ n
HasThreshold (Some (Calculated threshold inverted disabled children)) n = ⊥

-- An endpoint's check was there with its threshold, or no check before had its number.
abbrev pub IsLaterAt : Checks → (id : ℕ) → Check → Type 0
IsLaterAt old id (Endpoint threshold inverted disabled) =
    (old.next ≤ id) ⊎ HasThreshold (check_with old.list id) threshold
IsLaterAt old id (Calculated threshold inverted disabled children) = ⊤

abbrev pub EachIsLater : Checks → List (ℕ × Check) → Type 0
EachIsLater old list = (place id : ℕ) (check : Check) → slice_get list place ≡ Some (id, check)
    → IsLaterAt old id check

-- Checks that some commands leave of others: those of endpoints keep their thresholds, and a number
-- that comes was no check's before.
pub record AreLater (old new : Checks) : Type 0 where
  pub next : old.next ≤ new.next
  pub each : (id : ℕ) (check : Check) → check_with new.list id ≡ Some check → IsLaterAt old id check

-- what is known of the checks and of what their checkers saw
pub record Knows (old : Checks) (reports : List Report) (ids : List ℕ)
    (seen : List (Option Seen)) : Type 0 where
  pub its_ids : ids ≡ ids_of old.list
  pub rising : IdsRise old.list
  pub below : AllByRecursion (λ (held : ℕ × Check). held.0 < old.next) old.list
  pub its_seen : AreSeen reports old.list seen
  pub its_reports : AreReports old.next reports
