-- Where checks stand whose numbers rise.
use Rattle.std.specs.Prelude.{◌≡◌, ℕ, Bool, List, Option, None, Some, slice_get, nat_lt, nat_le}
use Rattle.check_model.specs.declared.checks.Check.{Check}
use Rattle.check_model.specs.Checks.{check_with}

-- whether a check has a smaller number
abbrev pub comes_before : (id : ℕ) → ℕ × Check → Bool
comes_before id held = nat_lt held.0 id

-- whether a check has no larger number
abbrev pub comes_not_behind : (id : ℕ) → ℕ × Check → Bool
comes_not_behind id held = nat_le held.0 id

-- where the check of a number stands
abbrev pub PlaceOrNone : List (ℕ × Check) → (id : ℕ) → Option ℕ → Type 0
PlaceOrNone list id None = check_with list id ≡ None
PlaceOrNone list id (Some place) =
    (check : Check) × (slice_get list place ≡ Some (id, check)) × (check_with list id ≡ Some check)
