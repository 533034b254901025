-- Numbers in decimal digits (FORMATS, Texts of values).
use Rattle.std.specs.Prelude.{ℕ, ◌+◌, ◌-◌, ◌*◌, List, [], ◌∷◌, Bool, ◌&&◌, nat_le}
use Rattle.std.specs.Prelude.{if◌then◌else◌, Option, None, Some}

abbrev pub is_digit : ℕ → Bool
is_digit b = nat_le 0x30 b && nat_le b 0x39

-- what digits come to that stand behind digits of this value, where they are all decimal digits
abbrev pub number_from : (value : ℕ) → List ℕ → Option ℕ
number_from value [] = Some value
number_from value (b ∷ rest) =
    if is_digit b then number_from (value * 10 + (b - 0x30)) rest else None

abbrev pub up_to : (most : ℕ) → Option ℕ → Option ℕ
up_to most None = None
up_to most (Some n) = if nat_le n most then Some n else None

-- One or more decimal digits of a value that is at most this. Leading zeros are allowed.
abbrev pub number : (most : ℕ) → List ℕ → Option ℕ
number most [] = None
number most (b ∷ rest) = up_to most (number_from 0 (b ∷ rest))
