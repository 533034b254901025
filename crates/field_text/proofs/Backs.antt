-- Written texts, and what they spell.
use Rattle.std.proofs.Common.{◌≡◌, ℕ, zero, suc, ◌+◌, ◌*◌, ◌/◌, ◌%◌, ◌<◌, List, [], ◌∷◌, length, get_or, drop, arith, ap, sym, ◌∙◌, subst, refl}
use Rattle.std.proofs.NetLemmas.Texts.{IsDotted-ipv4_text}
use Rattle.rdata_layout.specs.Names.{AreOctets}
use Rattle.rdata_layout.specs.Text.{name_of_text}
use Rattle.rdata_layout.specs.Written.{text_of}
use Rattle.rdata_layout.proofs.Written.{reads_back}
use Rattle.rdata_layout.specs.Fields.{IsField, IsTag}
use Rattle.rdata_layout.specs.declared.fields.Field.{Field}
use Rattle.rdata_layout.specs.declared.fields.Field.TheVariants as field
use Rattle.value_text.proofs.Digits.{reads_back as number_back}
use Rattle.address_text.proofs.Addresses.{ipv6_reads_back}
use Rattle.field_text.specs.Spelling.{Spells}
use Rattle.field_text.specs.Written.{text_of_field}
use Rattle.field_text.proofs.Names.{its_labels}

-- each octet, by its place
pub byte_at : (octets : List ℕ) → AreOctets octets → (k : ℕ) → get_or octets k 0 < 256
byte_at [] h k = omega arith
byte_at (b ∷ octets) h k =
    let later = byte_at octets h.1 in
    elim k as (λ j. get_or (b ∷ octets) j 0 < 256) [ zero ↦ h.0 | suc j ↦ later j ]

-- numbers of one, two and four octets
one_back : (octets : List ℕ) → length octets ≡ 1 → AreOctets octets
    → Spells field.Number8 (text_of_field field.Number8 octets) octets
one_back [] e h = absurd (omega arith)
one_back (a ∷ []) e h = (a, number_back a 255 (omega (arith, h.0)) (omega (arith, h.0)), refl)
one_back (a ∷ b ∷ octets) e h = absurd (omega arith)

two_back : (octets : List ℕ) → length octets ≡ 2 → AreOctets octets
    → Spells field.Number16 (text_of_field field.Number16 octets) octets
two_back [] e h = absurd (omega arith)
two_back (a ∷ []) e h = absurd (omega arith)
two_back (a ∷ b ∷ []) e h =
    let n = a * 256 + b in
    let high : a < 256 = h.0 in
    let low : b < 256 = h.1.0 in
    let first : a ≡ n / 256 = omega arith in
    let second : b ≡ n % 256 = omega arith in
    (n, number_back n 65535 (omega arith) (omega arith), cc)
two_back (a ∷ b ∷ c ∷ octets) e h = absurd (omega arith)

four_back : (octets : List ℕ) → length octets ≡ 4 → AreOctets octets
    → Spells field.Number32 (text_of_field field.Number32 octets) octets
four_back [] e h = absurd (omega arith)
four_back (a ∷ []) e h = absurd (omega arith)
four_back (a ∷ b ∷ []) e h = absurd (omega arith)
four_back (a ∷ b ∷ c ∷ []) e h = absurd (omega arith)
four_back (a ∷ b ∷ c ∷ d ∷ []) e h =
    let n = a * 16777216 + b * 65536 + c * 256 + d in
    let of_a : a < 256 = h.0 in
    let of_b : b < 256 = h.1.0 in
    let of_c : c < 256 = h.1.1.0 in
    let of_d : d < 256 = h.1.1.1.0 in
    let first : a ≡ n / 16777216 = omega arith in
    let second : b ≡ n / 65536 % 256 = omega arith in
    let third : c ≡ n / 256 % 256 = omega arith in
    let fourth : d ≡ n % 256 = omega arith in
    (n, number_back n 4294967295 (omega arith) (omega arith), cc)
four_back (a ∷ b ∷ c ∷ d ∷ x ∷ octets) e h = absurd (omega arith)

pub spelled_back : (field : Field) (octets : List ℕ) → IsField field octets → AreOctets octets
    → Spells field (text_of_field field octets) octets
spelled_back field.Ipv4 octets f h = IsDotted-ipv4_text octets f (byte_at octets h)
spelled_back field.Ipv6 octets f h = ipv6_reads_back octets f h
spelled_back field.Name octets f h =
    (f.0, ap (λ l. name_of_text (text_of l)) (its_labels octets f) ∙ reads_back f.0 f.1, f.2)
spelled_back field.Number8 octets f h = one_back octets f h
spelled_back field.Number16 octets f h = two_back octets f h
spelled_back field.Number32 octets f h = four_back octets f h
spelled_back field.Tag octets f h =
    let tag : f.0 ≡ drop 1 octets = ap (drop 1) (sym f.2) in
    (subst IsTag tag f.1, f.2 ∙ ap (λ t. length t ∷ t) tag)
