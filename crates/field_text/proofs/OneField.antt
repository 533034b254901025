-- Written texts as fields: no byte of them is below 0x2D, so no blank or quote is among them.
use Rattle.std.proofs.Common.{◌≡◌, ℕ, suc, ◌+◌, ◌-◌, ◌*◌, ◌/◌, ◌%◌, ◌^◌, ◌<◌, ◌≤◌, List, [], ◌∷◌, ◌++◌, length, get_or, drop, true, false, cond, Some, arith, ap, sym, ◌∙◌, subst, refl, inl, inr, lt-ltb}
use Rattle.std.specs.Prelude.{◌==◌, ◌&&◌, nat_le, nat_lt, All}
use Rattle.std.specs.Fmt.{decimal}
use Rattle.std.specs.List.{flat_map, AllByRecursion}
use Rattle.std.specs.Char.{digit_value}
use Rattle.std.specs.Str.Parse.{AllDigits}
use Rattle.std.specs.Net.Addr.{segments_of}
use Rattle.std.specs.Net.Text.{ipv4_text}
use Rattle.std.proofs.lemmas.Bool.{cond_both, cond-true, or_cases, or_from, and_parts, leb-true, eqb-true, ne_eqb, cases_lt}
use Rattle.std.proofs.lemmas.Fmt.{decimal_is_IsNumeral}
use Rattle.std.proofs.lemmas.List.Elements.{All-head, All-tail}
use Rattle.std.proofs.NetLemmas.Alphabet.{IsDigitOrDot, IsHexOrColon, All-ipv4_text, All-hex_groups_text}
use Rattle.rdata_layout.specs.Names.{AreOctets}
use Rattle.rdata_layout.specs.Text.{backslash, dot}
use Rattle.rdata_layout.specs.Written.{is_plain, text_of, text_of_label, text_of_octet}
use Rattle.rdata_layout.specs.Stored.{labels_of}
use Rattle.rdata_layout.specs.Fields.{IsField, is_letter_or_digit}
use Rattle.rdata_layout.specs.declared.fields.Field.{Field}
use Rattle.rdata_layout.specs.declared.fields.Field.TheVariants as field
use Rattle.value_text.specs.Fields.{is_blank, quote, field_len, plain_len, quoted_len, next_field}
use Rattle.address_text.specs.Spelling.{colon_hex}
use Rattle.address_text.proofs.Addresses.{segments_fit}
use Rattle.field_text.specs.Laws.{EndsField}
use Rattle.field_text.specs.Spelling.{Spells}
use Rattle.octets.specs.Numbers.{long_at}
use Rattle.field_text.specs.Written.{text_of_field}
use Rattle.field_text.proofs.Backs.{spelled_back, byte_at}
use Rattle.field_text.proofs.Spelled.{no_field}

abbrev IsDark : ℕ → Type 0
IsDark b = 0x2D ≤ b

abbrev AreDark : List ℕ → Type 0
AreDark text = AllByRecursion IsDark text

no_blank : (b : ℕ) → IsDark b → is_blank b ≡ false
no_blank b h =
    or_from (b == 0x20) (b == 0x09) (ne_eqb b 0x20 (λ e. omega arith))
    (ne_eqb b 0x09 (λ e. omega arith))

-- a field goes on to the end of dark bytes
goes_on : (text behind : List ℕ) → AreDark text → EndsField behind
    → plain_len (text ++ behind) ≡ length text
goes_on [] [] h e = refl
goes_on [] (b ∷ behind) h e = ap (λ t. cond t 0 (suc (plain_len behind))) e
goes_on (b ∷ text) behind h e =
    ap (λ t. cond t 0 (suc (plain_len (text ++ behind)))) (no_blank b h.0)
    ∙ ap suc (goes_on text behind h.1 e)

dark_field : (at : ℕ) (text behind : List ℕ) → (text ≡ [] → ⊥) → AreDark text → EndsField behind
    → next_field at (text ++ behind) ≡ Some (record { start = at; end = at + length text })
dark_field at [] behind some h e = absurd (some refl)
dark_field at (b ∷ text) behind some h e =
    ap (λ t. cond t (next_field (at + 1) (text ++ behind))
    (Some (record { start = at; end = at + field_len (b ∷ (text ++ behind)) })))
    (no_blank b h.0)
    ∙ ap (λ n. Some (record { start = at; end = at + n }))
    (ap (λ t. cond t (suc (quoted_len false (text ++ behind))) (suc (plain_len (text ++ behind))))
    (ne_eqb b quote (λ q. omega (arith, h.0)))
    ∙ ap suc (goes_on text behind h.1 e))

-- dark texts
from_all : (P : ℕ → Type 0) → ((b : ℕ) → P b → IsDark b) → (text : List ℕ) → All P text
    → AreDark text
from_all P f [] h = tt
from_all P f (b ∷ text) h = (f b (All-head P b text h), from_all P f text (All-tail P b text h))

both : (text more : List ℕ) → AreDark text → AreDark more → AreDark (text ++ more)
both [] more h k = k
both (b ∷ text) more h k = (h.0, both text more h.1 k)

dotted : (b : ℕ) → IsDigitOrDot b → IsDark b
dotted b (inl h) = omega (arith, h.0)
dotted b (inr h) = omega arith

hexed : (b : ℕ) → IsHexOrColon b → IsDark b
hexed b (inl h) = omega (arith, h.0)
hexed b (inr h) = omega (arith, h.0)

digit : (b : ℕ) → digit_value b < 10 → IsDark b
digit b h = elim (cases_lt b 48) [
  | inl low ↦ absurd (omega (
    arith,
    cond-true (nat_lt b 48) 36
        (cond (nat_lt b 58) (b - 48)
        (cond (nat_lt b 65) 36
        (cond (nat_lt b 91) (b - 55)
        (cond (nat_lt b 97) 36 (cond (nat_lt b 123) (b - 87) 36)))))
        (lt-ltb b 48 low),
  ))
  | inr high ↦ omega arith
]

digits : (text : List ℕ) → AllDigits 10 text → AreDark text
digits [] h = tt
digits (b ∷ text) h = (digit b h.0, digits text h.1)

decimals : (n : ℕ) → n < 2 ^ 64 → AreDark (decimal n)
decimals n h = digits (decimal n) (decimal_is_IsNumeral n h).0.1

-- a byte in a range of ASCII that begins no lower
range : (b low high : ℕ) → 0x2D ≤ low → (nat_le low b && nat_le b high) ≡ true → IsDark b
range b low high h k = omega (arith, leb-true low b (and_parts (nat_le low b) (nat_le b high) k).0)

plain_octet : (b : ℕ) → is_plain b ≡ true → IsDark b
plain_octet b h = elim (or_cases _ _ h) [
  | inl g ↦ elim (or_cases _ _ g) [
    | inl f ↦
        elim (or_cases _ _ f) [
          | inl e ↦ range b 0x61 0x7A (omega arith) e
          | inr e ↦ range b 0x30 0x39 (omega arith) e
        ]
    | inr f ↦ omega (arith, eqb-true b 0x2D f)
  ]
  | inr g ↦ omega (arith, eqb-true b 0x5F g)
]

letter : (b : ℕ) → is_letter_or_digit b ≡ true → IsDark b
letter b h = elim (or_cases _ _ h) [
  | inl g ↦
      elim (or_cases _ _ g) [
        | inl e ↦ range b 0x41 0x5A (omega arith) e
        | inr e ↦ range b 0x61 0x7A (omega arith) e
      ]
  | inr g ↦ range b 0x30 0x39 (omega arith) g
]

letters : (text : List ℕ) → AllByRecursion (λ b. is_letter_or_digit b ≡ true) text → AreDark text
letters [] h = tt
letters (b ∷ text) h = (letter b h.0, letters text h.1)

octet : (b : ℕ) → AreDark (text_of_octet b)
octet b =
    cond_both (is_plain b) (b ∷ []) (backslash ∷ (0x30 + b / 64) ∷ (0x30 + b / 8 % 8)
    ∷ (0x30 + b % 8) ∷ []) AreDark
    (λ e. (plain_octet b e, tt))
    (λ e. (omega arith, (omega arith, (omega arith, (omega arith, tt)))))

octets : (label : List ℕ) → AreDark (flat_map text_of_octet label)
octets [] = tt
octets (b ∷ label) = both (text_of_octet b) (flat_map text_of_octet label) (octet b) (octets label)

label_text : (label : List ℕ) → AreDark (text_of_label label)
label_text label = both (flat_map text_of_octet label) (dot ∷ []) (octets label) (omega arith, tt)

labels_text : (labels : List (List ℕ)) → AreDark (flat_map text_of_label labels)
labels_text [] = tt
labels_text (label ∷ labels) =
    both (text_of_label label) (flat_map text_of_label labels) (label_text label)
    (labels_text labels)

name_text : (labels : List (List ℕ)) → AreDark (text_of labels)
name_text [] = (omega arith, tt)
name_text (label ∷ labels) = labels_text (label ∷ labels)

dark : (field : Field) (octets : List ℕ) → IsField field octets → AreOctets octets
    → AreDark (text_of_field field octets)
dark field.Ipv4 octets f h =
    from_all IsDigitOrDot dotted (ipv4_text octets) (All-ipv4_text octets (byte_at octets h))
dark field.Ipv6 octets f h =
    from_all IsHexOrColon hexed (colon_hex octets)
    (All-hex_groups_text (segments_of octets) (segments_fit octets h))
dark field.Name octets f h = name_text (labels_of octets)
dark field.Number8 octets f h = decimals (get_or octets 0 0) (omega (arith, byte_at octets h 0))
dark field.Number16 octets f h =
    decimals (get_or octets 0 0 * 256 + get_or octets 1 0)
    (omega (arith, byte_at octets h 0, byte_at octets h 1))
dark field.Number32 octets f h = decimals (long_at octets 0)
    (omega (arith, byte_at octets h 0, byte_at octets h 1, byte_at octets h 2, byte_at octets h 3))
dark field.Tag octets f h = letters (drop 1 octets)
    (subst (λ t. AllByRecursion (λ b. is_letter_or_digit b ≡ true) t) (ap (drop 1) (sym f.2))
    f.1.plain)

pub one_field : (field : Field) (octets : List ℕ) → IsField field octets → AreOctets octets
    → (at : ℕ) (behind : List ℕ) → EndsField behind
    → next_field at (text_of_field field octets ++ behind)
    ≡ Some (record { start = at; end = at + length (text_of_field field octets) })
one_field field octets f h at behind e =
    dark_field at (text_of_field field octets) behind
    (λ none. no_field field octets
    (subst (λ t. Spells field t octets) none (spelled_back field octets f h)))
    (dark field octets f h) e
