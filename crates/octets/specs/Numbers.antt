-- Numbers of several octets, the highest first (RFC 1035, 2.3.2).
use Rattle.std.specs.Prelude.{ℕ, ◌+◌, ◌*◌, ◌/◌, ◌%◌, List, [], ◌∷◌, slice_index}

-- the number of the two octets at a place
abbrev pub number_at : List ℕ → ℕ → ℕ
number_at bytes at = slice_index bytes at * 256 + slice_index bytes (at + 1)

-- the number of the four octets at a place
abbrev pub long_at : List ℕ → ℕ → ℕ
long_at bytes at =
    slice_index bytes at * 16777216 + slice_index bytes (at + 1) * 65536
    + slice_index bytes (at + 2) * 256 + slice_index bytes (at + 3)

-- a number below 2^16 as two octets
abbrev pub two_octets : ℕ → List ℕ
two_octets n = (n / 256) ∷ (n % 256) ∷ []

-- a number below 2^32 as four octets
abbrev pub four_octets : ℕ → List ℕ
four_octets n = (n / 16777216) ∷ (n / 65536 % 256) ∷ (n / 256 % 256) ∷ (n % 256) ∷ []
