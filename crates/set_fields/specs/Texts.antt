-- The fields of sets that are letters and texts (FORMATS, Octets of sets).
use Rattle.std.specs.Prelude.{ℕ, ◌+◌, List, [], ◌∷◌, length, drop, Bool, false, ◌==◌, ◌&&◌, Result, Ok, Err, if◌then◌else◌}
use Rattle.octet_reading.specs.Readers.{text_at}
use Rattle.set_octets.specs.Texts.{is_printable, is_region_byte, is_subdivision_byte, is_location_byte}
use Rattle.set_octets.specs.Octets.{is_capital}

-- two of A to Z are one field
unfoldable pub country_at : List ℕ → Result (List ℕ × List ℕ) ℕ
country_at [] = Err 0
country_at (a ∷ []) = if is_capital a then Err 0 else Err 1
country_at (a ∷ b ∷ rest) = if is_capital a && is_capital b then Ok (a ∷ b ∷ [], rest) else Err (length rest + 2)

-- an identifier, the name of a region, and the code of a subdivision
abbrev pub ident_at : List ℕ → Result (List ℕ × List ℕ) ℕ
ident_at octets = text_at is_printable 128 octets

abbrev pub region_at : List ℕ → Result (List ℕ × List ℕ) ℕ
region_at octets = text_at is_region_byte 32 octets

abbrev pub sub_at : List ℕ → Result (List ℕ × List ℕ) ℕ
sub_at octets = text_at is_subdivision_byte 3 octets

-- a location that a set names: the one byte `*`, or a name
abbrev pub begins_with_star : List ℕ → Bool
begins_with_star [] = false
begins_with_star (n ∷ []) = false
begins_with_star (n ∷ b ∷ rest) = n == 1 && b == 0x2A

unfoldable pub location_at : List ℕ → Result (List ℕ × List ℕ) ℕ
location_at octets =
    if begins_with_star octets then Ok (0x2A ∷ [], drop 2 octets)
    else text_at is_location_byte 16 octets
