-- What a text spells.
use Rattle.std.proofs.Common.{◌≡◌, ℕ, ◌-◌, ◌*◌, ◌≤◌, List, [], ◌∷◌, ◌++◌, length, length-append, replicate, Some, Ok, arith, ap, sym, ◌∙◌, inl, inr}
use Rattle.std.proofs.lemmas.List.{length-replicate}
use Rattle.std.specs.Net.Addr.{octets_of}
use Rattle.std.specs.Net.Grammar.{IsColonHex}
use Rattle.octets.specs.Numbers.{two_octets, four_octets}
use Rattle.rdata_layout.specs.Labels.{wire}
use Rattle.rdata_layout.specs.Text.{name_of_text}
use Rattle.rdata_layout.proofs.Texts.{reads_names}
use Rattle.rdata_layout.specs.Fields.{IsField}
use Rattle.rdata_layout.specs.declared.fields.Field.{Field}
use Rattle.rdata_layout.specs.declared.fields.Field.TheVariants as field
use Rattle.value_text.specs.Numbers.{number}
use Rattle.address_text.proofs.Addresses.{one_ipv4, one_ipv6, no_ipv4, no_ipv6}
use Rattle.field_text.specs.Spelling.{Spells}

-- one field
pub one_reading : (field : Field) (text octets others : List ℕ) → Spells field text octets
    → Spells field text others → octets ≡ others
one_reading field.Ipv4 text octets others h k = one_ipv4 text octets others h k
one_reading field.Ipv6 text octets others h k = one_ipv6 text octets others h k
one_reading field.Name text octets others h k = let e : h.0 ≡ k.0 = (let s = sym h.1 ∙ k.1 in cc) in
    h.2 ∙ ap wire e ∙ sym k.2
one_reading field.Number8 text octets others h k = let e : h.0 ≡ k.0 =
    (let s = sym h.1 ∙ k.1 in cc) in h.2 ∙ ap (λ n. n ∷ []) e ∙ sym k.2
one_reading field.Number16 text octets others h k = let e : h.0 ≡ k.0 =
    (let s = sym h.1 ∙ k.1 in cc) in h.2 ∙ ap two_octets e ∙ sym k.2
one_reading field.Number32 text octets others h k = let e : h.0 ≡ k.0 =
    (let s = sym h.1 ∙ k.1 in cc) in h.2 ∙ ap four_octets e ∙ sym k.2
one_reading field.Tag text octets others h k = h.1 ∙ sym k.1

-- sixteen octets
eight : (text segments : List ℕ) → IsColonHex text segments → length segments ≡ 8
eight text segments (inl h) = h.1
eight text segments (inr h) =
    let zeros : List ℕ = replicate (8 - length h.head - length h.tail) 0 in
    let gap : length zeros ≡ 8 - length h.head - length h.tail = length-replicate _ _ in
    omega (
      arith,
      h.room,
      ap length h.value,
      length-append (h.head ++ zeros) h.tail,
      length-append h.head zeros,
      gap,
    )

twice : (segments : List ℕ) → length (octets_of segments) ≡ 2 * length segments
twice [] = omega arith
twice (s ∷ segments) = omega (arith, twice segments)

pub is_field : (field : Field) (text octets : List ℕ) → Spells field text octets
    → IsField field octets × (length octets ≤ 255)
is_field field.Ipv4 text octets h = let four = ap length h.value in (four, omega arith)
is_field field.Ipv6 text octets h =
    let sixteen : length octets ≡ 16 =
    omega (arith, ap length h.2, twice h.0, eight text h.0 h.1) in
    (sixteen, omega arith)
is_field field.Name text octets h =
    let name = reads_names text h.0 h.1 in
    ((h.0, name, h.2), omega (arith, ap length h.2, name.raw.fits))
is_field field.Number8 text octets h = let one = ap length h.2 in (one, omega arith)
is_field field.Number16 text octets h = let two = ap length h.2 in (two, omega arith)
is_field field.Number32 text octets h = let four = ap length h.2 in (four, omega arith)
is_field field.Tag text octets h = ((text, h.0, h.1), omega (arith, ap length h.1, h.0.short))

-- an empty text spells nothing
pub no_field : (field : Field) (octets : List ℕ) → Spells field [] octets → ⊥
no_field field.Ipv4 octets h = no_ipv4 octets h
no_field field.Ipv6 octets h = no_ipv6 octets h
no_field field.Name octets h = let e : name_of_text [] ≡ Ok h.0 = h.1 in absurd (cc)
no_field field.Number8 octets h = let e : number 255 [] ≡ Some h.0 = h.1 in absurd (cc)
no_field field.Number16 octets h = let e : number 65535 [] ≡ Some h.0 = h.1 in absurd (cc)
no_field field.Number32 octets h = let e : number 4294967295 [] ≡ Some h.0 = h.1 in absurd (cc)
no_field field.Tag octets h = omega (arith, h.0.filled)
