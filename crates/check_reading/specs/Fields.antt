-- The fields of health checks (FORMATS, Octets of commands).
use Rattle.std.specs.Prelude.{ℕ, List, Bool, true, false, nat_le, ◌&&◌, Option, None, Result, Ok}
use Rattle.check_octets.specs.Reading.{◌>>=◌, octet_at, two_at, four_at, flag_at}
use Rattle.check_octets.specs.Readers.{Reader, so_many, optional_at, tested}
use Rattle.check_octets.specs.Octets.{spells_disabled}

-- the threshold of an endpoint's check, 1 to 10
abbrev pub is_failures : ℕ → Bool
is_failures threshold = nat_le 1 threshold && nat_le threshold 10

unfoldable pub failures_at : List ℕ → Result (ℕ × List ℕ) ℕ
failures_at octets = tested is_failures octet_at octets

-- the threshold of a calculated check, at most 256
abbrev pub is_threshold : ℕ → Bool
is_threshold threshold = nat_le threshold 256

unfoldable pub threshold_at : List ℕ → Result (ℕ × List ℕ) ℕ
threshold_at octets = tested is_threshold two_at octets

-- a field that stands there where it is told; else it is as it is left, and no octets are taken
abbrev pub spelled_at : {A : Type 0} → (told : Bool) → (left : A) → Reader A → Reader A
spelled_at true left read octets = read octets
spelled_at false left read octets = Ok (left, octets)

-- whether a check is disabled
unfoldable pub disabled_at : (version : ℕ) → List ℕ → Result (Bool × List ℕ) ℕ
disabled_at version octets = spelled_at (spells_disabled version) false flag_at octets

-- what a change says of it
unfoldable pub disabling_at : (version : ℕ) → List ℕ → Result (Option Bool × List ℕ) ℕ
disabling_at version octets = spelled_at (spells_disabled version) None (optional_at flag_at) octets

-- a list behind the number of its items, which is read by a reader of its own
abbrev pub counted_at : {A : Type 0} → Reader ℕ → Reader A → Reader (List A)
counted_at count_at read octets = do
  count ← count_at octets
  so_many read count.0 count.1

-- at most 255 children
abbrev pub is_few : ℕ → Bool
is_few count = nat_le count 255

unfoldable pub few_at : List ℕ → Result (ℕ × List ℕ) ℕ
few_at octets = tested is_few two_at octets

unfoldable pub children_at : List ℕ → Result (List ℕ × List ℕ) ℕ
children_at octets = counted_at few_at four_at octets
