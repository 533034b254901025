-- The texts in routing policies (FORMATS, Octets of sets).
use Rattle.std.specs.Prelude.{◌≡◌, ℕ, ◌<◌, ◌≤◌, ◌⊎◌, List, [], ◌∷◌, length, Bool, ◌&&◌, ◌||◌, ◌==◌, nat_le, true}
use Rattle.std.specs.List.{AllByRecursion}
use Rattle.routing.specs.declared.alphabet.Alphabet.{Alphabet}
use Rattle.routing.specs.declared.alphabet.Alphabet.TheVariants.{Printable, RegionName, SubdivisionCode, LocationName}

-- printable ASCII with the space
abbrev pub is_printable : ℕ → Bool
is_printable b = nat_le 0x20 b && nat_le b 0x7E

-- a to z, 0 to 9 and the hyphen
abbrev pub is_region_byte : ℕ → Bool
is_region_byte b = (nat_le 0x61 b && nat_le b 0x7A) || (nat_le 0x30 b && nat_le b 0x39) || b == 0x2D

-- A to Z and 0 to 9
abbrev pub is_subdivision_byte : ℕ → Bool
is_subdivision_byte b = (nat_le 0x41 b && nat_le b 0x5A) || (nat_le 0x30 b && nat_le b 0x39)

-- letters, digits, `_` and `-`
abbrev pub is_location_byte : ℕ → Bool
is_location_byte b =
    (nat_le 0x41 b && nat_le b 0x5A) || (nat_le 0x61 b && nat_le b 0x7A)
    || (nat_le 0x30 b && nat_le b 0x39) || b == 0x5F || b == 0x2D

-- a text of 1 to so many bytes, each of them plain
pub record IsText (is_plain : ℕ → Bool) (most : ℕ) (text : List ℕ) : Type 0 where
  pub filled : 0 < length text
  pub short : length text ≤ most
  pub plain : AllByRecursion (λ b. is_plain b ≡ true) text

-- a set identifier
abbrev pub IsIdent : List ℕ → Type 0
IsIdent text = IsText is_printable 128 text

-- the name of a region, as us-east-1
abbrev pub IsRegion : List ℕ → Type 0
IsRegion text = IsText is_region_byte 32 text

-- the code of a subdivision (ISO 3166-2, behind the hyphen)
abbrev pub IsSubdivision : List ℕ → Type 0
IsSubdivision text = IsText is_subdivision_byte 3 text

-- the name of a location of a collection (API Reference, CidrRoutingConfig)
abbrev pub IsLocationName : List ℕ → Type 0
IsLocationName text = IsText is_location_byte 16 text

-- what a set names: a location, or `*`, which applies to each client, behind the set of its location
abbrev pub IsLocation : List ℕ → Type 0
IsLocation text = IsLocationName text ⊎ (text ≡ 0x2A ∷ [])

-- the bytes of an alphabet
abbrev pub is_of : Alphabet → ℕ → Bool
is_of Printable b = is_printable b
is_of RegionName b = is_region_byte b
is_of SubdivisionCode b = is_subdivision_byte b
is_of LocationName b = is_location_byte b
