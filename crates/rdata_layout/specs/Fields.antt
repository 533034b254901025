-- The fields of a value, as octets.
use Rattle.std.specs.Prelude.{◌≡◌, ℕ, ◌+◌, ◌<◌, ◌≤◌, List, ◌∷◌, length, slice_index, Bool, ◌&&◌, ◌||◌, nat_le, true}
use Rattle.std.specs.List.{AllByRecursion}
use Rattle.dns_name.specs.Labels.{wire}
use Rattle.dns_name.specs.Names.{IsName}
use Rattle.dns_name.specs.Stored.{labels_of}
use Rattle.rdata_layout.specs.declared.fields.Field.{Field}
use Rattle.rdata_layout.specs.declared.fields.Field.TheVariants as field

-- A to Z, a to z and 0 to 9
abbrev pub is_letter_or_digit : ℕ → Bool
is_letter_or_digit b = (nat_le 0x41 b && nat_le b 0x5A) || (nat_le 0x61 b && nat_le b 0x7A)
    || (nat_le 0x30 b && nat_le b 0x39)

-- the tag of a CAA property: 1 to 15 letters and digits (RFC 8659, 4.1)
pub record IsTag (tag : List ℕ) : Type 0 where
  pub filled : 0 < length tag
  pub short : length tag ≤ 15
  pub plain : AllByRecursion (λ b. is_letter_or_digit b ≡ true) tag

-- octets that are one field of this kind, whole
abbrev pub IsField : Field → List ℕ → Type 0
-- an address of 32 bits (RFC 1035, 3.4.1), or of 128 (RFC 3596, 2.2)
IsField field.Ipv4 octets = length octets ≡ 4
IsField field.Ipv6 octets = length octets ≡ 16
-- a name, without pointers and in lower case (RFC 1035, 3.1)
IsField field.Name octets = (labels : List (List ℕ)) × IsName labels × (octets ≡ wire labels)
-- numbers of 8, 16 and 32 bits
IsField field.Number8 octets = length octets ≡ 1
IsField field.Number16 octets = length octets ≡ 2
IsField field.Number32 octets = length octets ≡ 4
-- one octet of length, and a tag (RFC 8659, 4.1)
IsField field.Tag octets = (tag : List ℕ) × IsTag tag × (octets ≡ length tag ∷ tag)

-- how many octets at the front are a field of this kind, where one stands there
abbrev pub field_size : Field → List ℕ → ℕ
field_size field.Ipv4 octets = 4
field_size field.Ipv6 octets = 16
field_size field.Name octets = length (wire (labels_of octets))
field_size field.Number8 octets = 1
field_size field.Number16 octets = 2
field_size field.Number32 octets = 4
field_size field.Tag octets = slice_index octets 0 + 1
