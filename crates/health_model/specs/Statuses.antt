-- The status of a check, worked out from all reports (Route 53 Developer Guide, "How Amazon Route
-- 53 determines whether a health check is healthy").
use Rattle.std.specs.Prelude.{ℕ, zero, suc, ◌<◌, Bool, true, false, ◌&&◌, nat_eq, if◌then◌else◌, List, [], ◌∷◌, length, Option, None, Some, option_map}
use Rattle.std.specs.List.{AllByRecursion, filter}
use Rattle.calculated_health.specs.Status.{calculated_status, endpoint_status, swapped_if}
use Rattle.check_model.specs.declared.checks.Check.{Check}
use Rattle.check_model.specs.declared.checks.Check.TheVariants.{Endpoint, Calculated}
use Rattle.check_model.specs.Checks.{check_with}
use Rattle.checker_state.specs.Standing.{passing_of}

-- what a checker reported of a check
pub record Report : Type 0 where
  pub check : ℕ
  pub checker : ℕ
  pub pass : Bool

-- the results that a checker reported of a check, of these reports since the opening, the newest
-- first
abbrev pub results_of : List Report → (id checker : ℕ) → List Bool
results_of [] id checker = []
results_of (report ∷ before) id checker =
    if nat_eq id report.check && nat_eq checker report.checker
    then report.pass ∷ results_of before id checker else results_of before id checker

-- how many of the fifty checkers of a check see a pass, where so many equal results turn a view
abbrev pub passing : List Report → (id threshold : ℕ) → ℕ
passing reports id threshold = passing_of threshold (results_of reports id)

-- A disabled check is healthy, and unhealthy where it is inverted. Another one of an endpoint is
-- judged by its passing checkers, a calculated one by how many of its children are healthy.
abbrev pub check_value : Check → (passing : ℕ → ℕ) → (child : ℕ → Bool) → Bool
check_value (Endpoint threshold inverted disabled) passing child =
    if disabled then swapped_if inverted true else endpoint_status (passing threshold) inverted
check_value (Calculated threshold inverted disabled children) passing child =
    if disabled then swapped_if inverted true
    else calculated_status (length (filter child children)) threshold inverted

-- a check that isn't there is not healthy
abbrev pub value_there : Option Check → (passing : ℕ → ℕ) → (child : ℕ → Bool) → Bool
value_there None passing child = false
value_there (Some check) passing child = check_value check passing child

-- no child is healthy
abbrev pub none_healthy : ℕ → Bool
none_healthy child = false

-- The status of the check of a number, by a recursion into the children that goes so deep; below
-- that no child counts.
abbrev pub status_within : (depth : ℕ) → List (ℕ × Check) → List Report → (id : ℕ) → Bool
status_within zero checks reports id =
    value_there (check_with checks id) (passing reports id) none_healthy
status_within (suc depth) checks reports id =
    value_there (check_with checks id) (passing reports id) (status_within depth checks reports)

-- No walk of five checks stands, so a depth of four is enough.
unfoldable pub status : List (ℕ × Check) → List Report → (id : ℕ) → Bool
status checks reports id = status_within 4 checks reports id

-- ---- what is told of a check

-- the number beside the status: of the passing checkers, or of the healthy children, whether or not
-- the check is disabled
abbrev pub number_told : Check → (passing : ℕ → ℕ) → (child : ℕ → Bool) → ℕ
number_told (Endpoint threshold inverted disabled) passing child = passing threshold
number_told (Calculated threshold inverted disabled children) passing child =
    length (filter child children)

-- the status of a check and that number, where the check is there
abbrev pub status_told : List (ℕ × Check) → List Report → (id : ℕ) → Option (Bool × ℕ)
status_told checks reports id = option_map (λ check. (
  status checks reports id,
  number_told check (passing reports id) (status checks reports),
)) (check_with checks id)

-- Each report is of a check that there was, by a number below the next one, and of one of the fifty
-- checkers.
abbrev pub AreReports : (next : ℕ) → List Report → Type 0
AreReports next reports =
    AllByRecursion (λ (report : Report). (report.check < next) × (report.checker < 50)) reports
