-- The texts of single fields, by what they spell (FORMATS, Texts of values).
use Rattle.std.specs.Prelude.{◌≡◌, ℕ, ◌+◌, ◌*◌, ◌^◌, ◌<◌, ◌≤◌, List, [], ◌∷◌, length}
use Rattle.std.specs.List.{AllZip}
use Rattle.std.specs.Net.Grammar.{IsDotted}
use Rattle.octets.specs.Numbers.{two_octets, four_octets}
use Rattle.dns_name.specs.Labels.{wire, lowered}
use Rattle.address_text.specs.Spelling.{SpellsIpv6}
use Rattle.field_text.specs.Fields.{IsTag}
use Rattle.field_text.specs.FieldRecord as kind
use Rattle.field_text.specs.FieldRecord.TheVariants as field
use Rattle.text_meanings.specs.Names.{IsTextOf}

-- a decimal digit
abbrev pub IsDigit : (b digit : ℕ) → Type 0
IsDigit b digit = (digit < 10) × (b ≡ 0x30 + digit)

-- the number of decimal digits: each counts for itself times a power of ten, by its place
abbrev pub value_of : (digits : List ℕ) → ℕ
value_of [] = 0
value_of (digit ∷ digits) = digit * 10 ^ length digits + value_of digits

-- A text spells a number up to a bound: decimal digits, one at least; zeros may lead.
pub record SpellsNumber (most : ℕ) (text : List ℕ) (n : ℕ) : Type 0 where
  pub digits : List ℕ
  pub each : AllZip IsDigit text digits
  pub some : 0 < length digits
  pub value : n ≡ value_of digits
  pub small : n ≤ most

-- A text spells the octets of a field of this kind.
abbrev pub SpellsField : kind.Field → (text octets : List ℕ) → Type 0
-- an address (RFC 1035, 3.4.1; RFC 4291, 2.2)
SpellsField field.Ipv4 text octets = IsDotted text octets
SpellsField field.Ipv6 text octets = SpellsIpv6 text octets
-- a name in either case, on the wire in lower case (RFC 1035, 5.1 and 2.3.3)
SpellsField field.Name text octets =
    (labels : List (List ℕ)) × IsTextOf text labels × (octets ≡ wire (lowered labels))
-- a number; its octets, the highest first (RFC 1035, 2.3.2)
SpellsField field.Number8 text octets = (n : ℕ) × SpellsNumber 255 text n × (octets ≡ n ∷ [])
SpellsField field.Number16 text octets =
    (n : ℕ) × SpellsNumber 65535 text n × (octets ≡ two_octets n)
SpellsField field.Number32 text octets =
    (n : ℕ) × SpellsNumber 4294967295 text n × (octets ≡ four_octets n)
-- 1 to 15 letters and digits, as they are, behind their number (RFC 8659, 4.1 and 4.1.1)
SpellsField field.Tag text octets = IsTag text × (octets ≡ length text ∷ text)
