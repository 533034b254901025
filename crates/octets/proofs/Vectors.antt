-- Numbers in network order (RFC 1035, 2.3.2) and in octal digits, by hand.
use Rattle.std.proofs.Common.{◌≡◌, [], ◌∷◌, refl, map, true, false}
use Rattle.octets.specs.Numbers.{number_at, long_at, two_octets, four_octets}
use Rattle.octets.specs.Octal.{has_octal, octal_of}

-- 0x1234 and 0x12345678 behind an octet, and the largest numbers
pub read : (number_at (9 ∷ 0x12 ∷ 0x34 ∷ 0x56 ∷ []) 1 ≡ 0x1234)
    × (number_at (255 ∷ 255 ∷ []) 0 ≡ 65535)
    × (long_at (9 ∷ 0x12 ∷ 0x34 ∷ 0x56 ∷ 0x78 ∷ []) 1 ≡ 0x12345678)
    × (long_at (255 ∷ 255 ∷ 255 ∷ 255 ∷ []) 0 ≡ 4294967295)
read = (refl, refl, refl, refl)

pub two : map two_octets (0x1234 ∷ 255 ∷ 256 ∷ 65535 ∷ [])
    ≡ (0x12 ∷ 0x34 ∷ []) ∷ (0 ∷ 255 ∷ []) ∷ (1 ∷ 0 ∷ []) ∷ (255 ∷ 255 ∷ []) ∷ []
two = refl

pub four : map four_octets (0x12345678 ∷ 65535 ∷ 65536 ∷ 4294967295 ∷ [])
    ≡ (0x12 ∷ 0x34 ∷ 0x56 ∷ 0x78 ∷ []) ∷ (0 ∷ 0 ∷ 255 ∷ 255 ∷ []) ∷ (0 ∷ 1 ∷ 0 ∷ 0 ∷ [])
    ∷ (255 ∷ 255 ∷ 255 ∷ 255 ∷ []) ∷ []
four = refl

-- "052x", "000", "377"
pub octal : map octal_of ((0x30 ∷ 0x35 ∷ 0x32 ∷ 0x78 ∷ []) ∷ (0x30 ∷ 0x30 ∷ 0x30 ∷ [])
    ∷ (0x33 ∷ 0x37 ∷ 0x37 ∷ []) ∷ [])
    ≡ 42 ∷ 0 ∷ 255 ∷ []
octal = refl

-- "052x", "377", "400", "77", "/00", "080", "00x"
pub digits : map has_octal ((0x30 ∷ 0x35 ∷ 0x32 ∷ 0x78 ∷ []) ∷ (0x33 ∷ 0x37 ∷ 0x37 ∷ [])
    ∷ (0x34 ∷ 0x30 ∷ 0x30 ∷ [])
    ∷ (0x37 ∷ 0x37 ∷ []) ∷ (0x2F ∷ 0x30 ∷ 0x30 ∷ []) ∷ (0x30 ∷ 0x38 ∷ 0x30 ∷ [])
    ∷ (0x30 ∷ 0x30 ∷ 0x78 ∷ []) ∷ [])
    ≡ true ∷ true ∷ false ∷ false ∷ false ∷ false ∷ false ∷ []
digits = refl
