-- How many sets name each check, counted beside the numbers that are told by slots.
use Rattle.std.specs.Prelude.{◌≡◌, ◌≢◌, ◌<◌, ◌==◌, ℕ, Bool, List, Option, None, Some, if◌then◌else◌, slice_get, slice_index}
use Rattle.std.specs.List.{count_by, sum_by}
use Rattle.check_commands.specs.declared.counting.CheckUse.{CheckUse}

-- the number of the check that is told at a slot, 0 where none is
abbrev pub told_at : List ℕ → (slot : ℕ) → ℕ
told_at list slot = slice_index list slot

-- a check is told at some slot
abbrev pub IsTold : List ℕ → (check : ℕ) → Type 0
IsTold list check = (slot : ℕ) × (told_at list slot ≡ check)

-- at how many slots a number is told
abbrev pub times : (check : ℕ) → List ℕ → ℕ
times check list = count_by (λ other. other == check) list

-- how many are counted of a check
abbrev pub counted : (check : ℕ) → List CheckUse → ℕ
counted check uses =
    sum_by (λ (one : CheckUse). if one.check == check then one.count else 0) uses

abbrev pub one_if : Bool → ℕ
one_if holds = if holds then 1 else 0

-- Of each check as many are counted as are told. Number 0 is of none.
abbrev pub AreCounted : List CheckUse → List ℕ → Type 0
AreCounted uses list = (check : ℕ) → check ≢ 0 → counted check uses ≡ times check list

-- the place of a check of which some are counted, or that none are
abbrev pub IsPlaceOf : List CheckUse → (check : ℕ) → Option ℕ → Type 0
IsPlaceOf uses check (Some place) = (one : CheckUse) × (slice_get uses place ≡ Some one)
    × (one.check ≡ check) × (0 < one.count)
IsPlaceOf uses check None = counted check uses ≡ 0
