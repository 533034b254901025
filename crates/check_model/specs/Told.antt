-- What the rules of commands on health checks say, in words of lists.
use Rattle.std.specs.Prelude.{◌≡◌, ℕ, suc, List, ◌∷◌, ◌++◌, length, Option, None, Some, IsTrue, ◌↔◌}
use Rattle.std.specs.List.{AllByRecursion}
use Rattle.check_model.specs.declared.checks.Check.{Check}
use Rattle.check_model.specs.Checks.{AreDistinct, IdsRise, IsChildOf, IsId, IsWalk}
use Rattle.check_model.specs.Commands.{first_missing, has_repeated, has_walk, is_named, is_too_deep, starts_walk}

-- a walk of one check more than it has steps
abbrev pub HasWalkFrom : (steps : ℕ) → List (ℕ × Check) → (id : ℕ) → Type 0
HasWalkFrom steps list id =
    (walk : List ℕ) × IsWalk list (id ∷ walk) × (length walk ≡ steps)

abbrev pub HasWalk : List (ℕ × Check) → (checks : ℕ) → Type 0
HasWalk list checks = (walk : List ℕ) × IsWalk list walk × (length walk ≡ checks)

-- Walks start, and stand, where there are such lists of checks.
pub record WalksAreTold : Type 0 where
  pub starts : (steps : ℕ) (list : List (ℕ × Check)) (id : ℕ)
      → IsTrue (starts_walk steps list id) ↔ HasWalkFrom steps list id
  pub stand : (steps : ℕ) (list : List (ℕ × Check))
      → IsTrue (has_walk steps list) ↔ HasWalk list (suc steps)
  pub deep : (list : List (ℕ × Check)) → IsTrue (is_too_deep list) ↔ HasWalk list 5

-- It is the first of the numbers that no check has, or there is none.
abbrev pub IsFirstMissing : List (ℕ × Check) → (children : List ℕ) → Option ℕ → Type 0
IsFirstMissing list children None = AllByRecursion (IsId list) children
IsFirstMissing list children (Some child) =
    (before behind : List ℕ) × (children ≡ before ++ child ∷ behind)
    × AllByRecursion (IsId list) before × (IsId list child → ⊥)

-- a check has this one among its children
abbrev pub IsReferredTo : List (ℕ × Check) → (id : ℕ) → Type 0
IsReferredTo list id = (parent : ℕ) × IsChildOf list parent id

-- Each rule holds exactly where its words say.
pub record RefusalsAreTold : Type 0 where
  pub repeated : (children : List ℕ) → IsTrue (has_repeated children) ↔ (AreDistinct children → ⊥)
  pub missing : (list : List (ℕ × Check)) (children : List ℕ)
      → IsFirstMissing list children (first_missing list children)
  pub named : (list : List (ℕ × Check)) (id : ℕ) → IdsRise list
      → IsTrue (is_named id list) ↔ IsReferredTo list id
