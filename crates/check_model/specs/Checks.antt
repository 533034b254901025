-- Health checks of a configuration, by their numbers (Route 53 API Reference, HealthCheckConfig),
-- and when they are sound.
use Rattle.std.specs.Prelude.{◌≡◌, ◌≢◌, ℕ, ◌<◌, ◌≤◌, List, [], ◌∷◌, length, Option, None, Some, Contains, nat_eq, ⊤}
use Rattle.std.specs.List.{AllByRecursion}
use Rattle.std.specs.Map.{lookup}
use Rattle.check_model.specs.declared.checks.Check.{Check}
use Rattle.check_model.specs.declared.checks.Check.TheVariants.{Endpoint, Calculated}

-- the checks, and the number that the next one gets
pub record Checks : Type 0 where
  pub next : ℕ
  pub list : List (ℕ × Check)

-- the check of a number
abbrev pub check_with : List (ℕ × Check) → ℕ → Option Check
check_with list id = lookup (nat_eq id) list

-- a check has the number
abbrev pub IsId : List (ℕ × Check) → ℕ → Type 0
IsId list id = (check : Check) × (check_with list id ≡ Some check)

-- the children of a check; one of an endpoint has none
abbrev pub children_of : Check → List ℕ
children_of (Endpoint threshold inverted disabled) = []
children_of (Calculated threshold inverted disabled children) = children

abbrev pub IsCalculated : Check → Type 0
IsCalculated (Endpoint threshold inverted disabled) = ⊥
IsCalculated (Calculated threshold inverted disabled children) = ⊤

-- ---- walks

-- the number is that of a calculated check
abbrev pub IsCalculatedAt : List (ℕ × Check) → ℕ → Type 0
IsCalculatedAt list id = (check : Check) × (check_with list id ≡ Some check) × IsCalculated check

-- the check of the first number has the other one among its children
abbrev pub IsChildOf : List (ℕ × Check) → (id child : ℕ) → Type 0
IsChildOf list id child =
    (check : Check) × (check_with list id ≡ Some check) × Contains (children_of check) child

-- A walk of checks: each is calculated, and each but the first is a child of the one before.
abbrev pub IsWalk : List (ℕ × Check) → (walk : List ℕ) → Type 0
IsWalk list [] = ⊤
IsWalk list (id ∷ []) = IsCalculatedAt list id
IsWalk list (id ∷ next ∷ walk) =
    IsCalculatedAt list id × IsChildOf list id next × IsWalk list (next ∷ walk)

-- ---- sound

-- Each number is below those behind it.
abbrev pub IdsRise : List (ℕ × Check) → Type 0
IdsRise [] = ⊤
IdsRise (held ∷ list) = AllByRecursion (λ other. held.0 < other.0) list × IdsRise list

-- No number stands twice.
abbrev pub AreDistinct : List ℕ → Type 0
AreDistinct [] = ⊤
AreDistinct (child ∷ children) =
    AllByRecursion (λ other. child ≢ other) children × AreDistinct children

-- the children are there, and none is named twice
pub record AreChildren (list : List (ℕ × Check)) (children : List ℕ) : Type 0 where
  pub there : AllByRecursion (IsId list) children
  pub distinct : AreDistinct children

-- An endpoint's threshold is 1 to 10 (FailureThreshold); a calculated check's is at most 256
-- (HealthThreshold), and it has at most 255 children (Route 53 quotas).
abbrev pub IsBounded : Check → Type 0
IsBounded (Endpoint threshold inverted disabled) = (1 ≤ threshold) × (threshold ≤ 10)
IsBounded (Calculated threshold inverted disabled children) =
    (threshold ≤ 256) × (length children ≤ 255)

-- There are at most 200 checks (Route 53 quotas); their next number is 1 to 4,294,967,295; their
-- numbers are at least 1 and below it, and rise; children are there and distinct; there is no walk
-- of five checks (own); each check is within its bounds.
pub record IsSound (checks : Checks) : Type 0 where
  pub few : length checks.list ≤ 200
  pub from : 1 ≤ checks.next
  pub to : checks.next ≤ 4294967295
  pub ids : AllByRecursion (λ held. (1 ≤ held.0) × (held.0 < checks.next)) checks.list
  pub rising : IdsRise checks.list
  pub children : AllByRecursion (λ held. AreChildren checks.list (children_of held.1)) checks.list
  pub shallow : (walk : List ℕ) → IsWalk checks.list walk → length walk ≢ 5
  pub bounded : AllByRecursion (λ held. IsBounded held.1) checks.list

-- ---- the next number of a check

-- the least number above the given one
pub record IsNextId (list : List (ℕ × Check)) (id next : ℕ) : Type 0 where
  pub there : IsId list next
  pub above : id < next
  pub least : (other : ℕ) → IsId list other → id < other → next ≤ other

-- it, or that there is none
abbrev pub NextIdOrNone : List (ℕ × Check) → (id : ℕ) → Option ℕ → Type 0
NextIdOrNone list id (Some next) = IsNextId list id next
NextIdOrNone list id None = (other : ℕ) → IsId list other → other ≤ id
