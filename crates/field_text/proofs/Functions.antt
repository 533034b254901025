-- The function that gives the octets of a text, beside what the text spells.
use Rattle.std.proofs.Common.{◌≡◌, ℕ, List, [], ◌∷◌, length, nat_lt, nat_le, ◌&&◌, true, Option, None, Some, option_map, Result, Ok, Err, ltb-true, lt-ltb, leb-true, le-leb, refl, sym, ap, ◌∙◌}
use Rattle.std.specs.Prelude.{◌↔◌}
use Rattle.std.proofs.lemmas.Bool.{and_parts, and_from}
use Rattle.std.proofs.lemmas.Option.{none-some, same_Some, cond_some}
use Rattle.std.specs.List.{list_all, AllByRecursion}
use Rattle.octets.specs.Numbers.{two_octets, four_octets}
use Rattle.address_text.specs.Laws.{Ipv4OfText, Ipv6OfText}
use Rattle.rdata_layout.specs.Labels.{wire}
use Rattle.rdata_layout.specs.Text.{name_of_text}
use Rattle.rdata_layout.specs.NameFaultRecord.{NameFault}
use Rattle.rdata_layout.specs.Fields.{IsTag, is_letter_or_digit}
use Rattle.rdata_layout.specs.declared.fields.Field.{Field}
use Rattle.rdata_layout.specs.declared.fields.Field.TheVariants as field
use Rattle.value_text.specs.Numbers.{number}
use Rattle.field_text.specs.OctetsOfText.{name_octets, tag_octets, octets_of_text}
use Rattle.field_text.specs.Spelling.{Spells}

module _ {A : Type 0} (f : A → List ℕ) where
  -- what a value that is there gives
  mapped : (o : Option A) (octets : List ℕ) → option_map f o ≡ Some octets
      → (x : A) × (o ≡ Some x) × (octets ≡ f x)
  mapped None octets e = absurd (none-some octets e)
  mapped (Some x) octets e = (x, refl, sym (same_Some _ _ e))

  mapped_back : (o : Option A) (octets : List ℕ) → (x : A) × (o ≡ Some x) × (octets ≡ f x)
      → option_map f o ≡ Some octets
  mapped_back o octets (x, is, same) = ap (option_map f) is ∙ ap Some (sym same)

name : (r : Result (List (List ℕ)) NameFault) (octets : List ℕ) → name_octets r ≡ Some octets
    → (labels : List (List ℕ)) × (r ≡ Ok labels) × (octets ≡ wire labels)
name (Ok labels) octets e = (labels, refl, sym (same_Some _ _ e))
name (Err fault) octets e = absurd (none-some octets e)

name_back : (r : Result (List (List ℕ)) NameFault) (octets : List ℕ)
    → (labels : List (List ℕ)) × (r ≡ Ok labels) × (octets ≡ wire labels)
    → name_octets r ≡ Some octets
name_back r octets (labels, is, same) = ap name_octets is ∙ ap Some (sym same)

all_plain : (text : List ℕ) → list_all is_letter_or_digit text ≡ true
    → AllByRecursion (λ b. is_letter_or_digit b ≡ true) text
all_plain [] e = tt
all_plain (b ∷ text) e =
    let (first, rest) = and_parts (is_letter_or_digit b) (list_all is_letter_or_digit text) e in
    (first, all_plain text rest)

plain_all : (text : List ℕ) → AllByRecursion (λ b. is_letter_or_digit b ≡ true) text
    → list_all is_letter_or_digit text ≡ true
plain_all [] h = refl
plain_all (b ∷ text) h =
    and_from (is_letter_or_digit b) (list_all is_letter_or_digit text) h.0 (plain_all text h.1)

tag : (text octets : List ℕ) → tag_octets text ≡ Some octets
    → IsTag text × (octets ≡ length text ∷ text)
tag text octets e =
    let some = nat_lt 0 (length text) in
    let few = nat_le (length text) 15 in
    let (test, same) = cond_some _ _ _ e in
    let (size, plain) = and_parts (some && few) (list_all is_letter_or_digit text) test in
    let (filled, short) = and_parts some few size in (
      record {
        filled = ltb-true 0 (length text) filled;
        short =
            leb-true (length text) 15 short;
        plain = all_plain text plain;
      },
      sym same,
    )

tag_back : (text octets : List ℕ) → IsTag text × (octets ≡ length text ∷ text)
    → tag_octets text ≡ Some octets
tag_back text octets (h, same) =
    rw (
      lt-ltb 0 (length text) h.filled,
      le-leb (length text) 15 h.short,
      plain_all text h.plain,
    ) (ap Some (sym same))

pub of_text : Ipv4OfText → Ipv6OfText → (field : Field) (text octets : List ℕ)
    → (octets_of_text field text ≡ Some octets) ↔ Spells field text octets
of_text four six field.Ipv4 text octets = four text octets
of_text four six field.Ipv6 text octets = six text octets
of_text four six field.Name text octets =
    (name (name_of_text text) octets, name_back (name_of_text text) octets)
of_text four six field.Number8 text octets = (
  mapped (λ n. n ∷ []) (number 255 text) octets,
  mapped_back (λ n. n ∷ []) (number 255 text) octets,
)
of_text four six field.Number16 text octets = (
  mapped two_octets (number 65535 text) octets,
  mapped_back two_octets (number 65535 text) octets,
)
of_text four six field.Number32 text octets = (
  mapped four_octets (number 4294967295 text) octets,
  mapped_back four_octets (number 4294967295 text) octets,
)
of_text four six field.Tag text octets = (tag text octets, tag_back text octets)
