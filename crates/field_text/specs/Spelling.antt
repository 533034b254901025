-- The texts of fields (FORMATS, Texts of values).
use Rattle.std.specs.Prelude.{◌≡◌, ℕ, List, [], ◌∷◌, length, Some, Ok}
use Rattle.std.specs.Net.Grammar.{IsDotted}
use Rattle.octets.specs.Numbers.{two_octets, four_octets}
use Rattle.rdata_layout.specs.Labels.{wire}
use Rattle.rdata_layout.specs.Text.{name_of_text}
use Rattle.rdata_layout.specs.Fields.{IsTag}
use Rattle.rdata_layout.specs.declared.fields.Field.{Field}
use Rattle.rdata_layout.specs.declared.fields.Field.TheVariants as field
use Rattle.value_text.specs.Numbers.{number}
use Rattle.address_text.specs.Spelling.{SpellsIpv6}

-- A text spells the octets of a field of this kind.
abbrev pub Spells : Field → (text octets : List ℕ) → Type 0
-- four numbers of 0 to 255 without leading zeros, with dots between them (RFC 1035, 3.4.1)
Spells field.Ipv4 text octets = IsDotted text octets
-- an address of RFC 4291, 2.2 (RFC 3596, 2.4)
Spells field.Ipv6 text octets = SpellsIpv6 text octets
-- a name in either case, on the wire in lower case (RFC 1035, 5.1 and 2.3.3)
Spells field.Name text octets = (labels : List (List ℕ)) × (name_of_text text ≡ Ok labels)
    × (octets ≡ wire labels)
-- Decimal digits, perhaps with leading zeros. The octets are the number's, the highest first
-- (RFC 1035, 2.3.2).
Spells field.Number8 text octets = (n : ℕ) × (number 255 text ≡ Some n) × (octets ≡ n ∷ [])
Spells field.Number16 text octets = (n : ℕ) × (number 65535 text ≡ Some n) × (octets ≡ two_octets n)
Spells field.Number32 text octets =
    (n : ℕ) × (number 4294967295 text ≡ Some n) × (octets ≡ four_octets n)
-- 1 to 15 letters and digits, as they are, behind their number (RFC 8659, 4.1 and 4.1.1)
Spells field.Tag text octets = IsTag text × (octets ≡ length text ∷ text)
