-- The octets of health checks and of commands on them, in both versions (FORMATS, Octets of
-- commands).
use Rattle.std.specs.Prelude.{◌≡◌, ℕ, ◌<◌, ◌^◌, List, [], ◌∷◌, ◌++◌, length, Bool, true, false}
use Rattle.std.specs.Prelude.{nat_lt, Option, None, ⊤}
use Rattle.octets.specs.Numbers.{two_octets, four_octets}
use Rattle.octet_reading.specs.Rules.{flag_octet, list_octets, optional_octets, WhereSome}
use Rattle.check_model.specs.declared.checks.Check.{Check}
use Rattle.check_model.specs.declared.checks.Check.TheVariants.{Endpoint, Calculated}
use Rattle.check_model.specs.declared.checks.CheckCommand.{CheckCommand}
use Rattle.check_model.specs.declared.checks.CheckCommand.TheVariants.{Create, Update, Delete}
use Rattle.check_model.specs.Checks.{IsBounded}
use Rattle.check_model.specs.Commands.{IsThreshold}

-- Disabled is told from the second version on.
abbrev pub spells_disabled : (version : ℕ) → Bool
spells_disabled version = nat_lt 1 version

-- what stands there where it is told
abbrev pub where_spelled : (told : Bool) → List ℕ → List ℕ
where_spelled true octets = octets
where_spelled false octets = []

abbrev pub flag_octets : Bool → List ℕ
flag_octets flag = flag_octet flag ∷ []

abbrev pub disabled_octets : (version : ℕ) → Bool → List ℕ
disabled_octets version disabled = where_spelled (spells_disabled version) (flag_octets disabled)

-- A check is 1 for an endpoint's, with its threshold in one octet, or 2 for a calculated one, with
-- its threshold in two; then inverted and disabled; and children.
abbrev pub check_octets : (version : ℕ) → Check → List ℕ
check_octets version (Endpoint threshold inverted disabled) =
    1 ∷ threshold ∷ flag_octet inverted ∷ disabled_octets version disabled
check_octets version (Calculated threshold inverted disabled children) =
    2 ∷ (two_octets threshold ++ (flag_octet inverted ∷ disabled_octets version disabled)
    ++ list_octets four_octets children)

-- the kinds of commands on checks
abbrev pub kind_of : CheckCommand → ℕ
kind_of (Create check) = 4
kind_of (Update id inverted disabled threshold children) = 5
kind_of (Delete id) = 6

-- the fields of a command; of a change what is given, each behind a flag
abbrev pub field_octets : (version : ℕ) → CheckCommand → List ℕ
field_octets version (Create check) = check_octets version check
field_octets version (Update id inverted disabled threshold children) =
    four_octets id ++ optional_octets flag_octets inverted
    ++ where_spelled (spells_disabled version) (optional_octets flag_octets disabled)
    ++ optional_octets two_octets threshold
    ++ optional_octets (list_octets four_octets) children
field_octets version (Delete id) = four_octets id

-- ---- which commands have a spelling

-- What isn't told is as it is left.
abbrev pub IsSpelledOrLeft : {A : Type 0} → (version : ℕ) → (left : A) → A → Type 0
IsSpelledOrLeft version left disabled = spells_disabled version ≡ false → disabled ≡ left

-- whether a check is disabled
abbrev pub disabled_of : Check → Bool
disabled_of (Endpoint threshold inverted disabled) = disabled
disabled_of (Calculated threshold inverted disabled children) = disabled

-- A check is within its bounds; in the first version it isn't disabled.
pub record IsSpelledCheck (version : ℕ) (check : Check) : Type 0 where
  pub bounded : IsBounded check
  pub told : IsSpelledOrLeft version false (disabled_of check)

-- no more children than can be counted
abbrev pub IsListable : List ℕ → Type 0
IsListable children = length children < 2 ^ 16

-- A change gives a threshold of at most 256, and no more children than can be counted; in the first
-- version it leaves Disabled.
pub record IsSpelledUpdate (version : ℕ) (disabled : Option Bool) (threshold : Option ℕ)
    (children : Option (List ℕ)) : Type 0 where
  pub threshold_is : IsThreshold threshold
  pub listable : WhereSome IsListable children
  pub told : IsSpelledOrLeft version None disabled

-- What has a spelling in a version.
abbrev pub HasSpelling : (version : ℕ) → CheckCommand → Type 0
HasSpelling version (Create check) = IsSpelledCheck version check
HasSpelling version (Update id inverted disabled threshold children) =
    IsSpelledUpdate version disabled threshold children
HasSpelling version (Delete id) = ⊤
