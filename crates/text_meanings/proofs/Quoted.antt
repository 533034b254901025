-- What a text in quotes reads as is what it spells.
use Rattle.std.proofs.Common.{◌≡◌, ℕ, zero, suc, ◌+◌, ◌≤◌, List, [], ◌∷◌, ◌++◌, length, drop, arith, ap, ◌∙◌, sym, refl, subst, inl, inr}
use Rattle.std.proofs.Common.{true, false, append-nil, append_assoc, length-append, Option, None, Some}
use Rattle.std.specs.Prelude.{nat_le, ◌==◌, ◌↔◌, ◌⊎◌, slice_index}
use Rattle.std.specs.List.{AllZip, concat}
use Rattle.std.proofs.lemmas.Bool.{and_parts, and_from, or_cases, or_left, or_right, or_from, leb-true}
use Rattle.std.proofs.lemmas.Bool.{le-leb, eq-eqb, ne_eqb, eqb-true, cases_Bool, cases_eq, cond-true, cond-false}
use Rattle.std.proofs.lemmas.List.{drop_at}
use Rattle.octets.specs.Octal.{has_octal, octal_of}
use Rattle.value_text.specs.Strings.{read_from, after_byte, is_escaped, is_printable, at_the_end, string_of_text}
use Rattle.value_text.specs.Strings.Progress.{Opening, Reading, Closed, Broken}
use Rattle.value_text.proofs.Reading.{broken, passed, not_quoted}
use Rattle.text_meanings.specs.Characters.{backslash, IsEscape, AreCharacters}
use Rattle.text_meanings.specs.Strings.{quote, IsBareInString, IsStringCharacter, SpellsString}
use Rattle.text_meanings.proofs.Pieces.{characters_push, no_characters}
use Rattle.text_meanings.proofs.Fronts.{escape_at}
use Rattle.text_meanings.proofs.Reading.{three_digits}

-- a character, as the reading takes its first byte
record IsTaken (piece rest : List ℕ) (octet : ℕ) : Type 0 where
  first : ℕ
  behind : List ℕ
  bytes : piece ≡ first ∷ behind
  takes : (string : List ℕ)
      → after_byte (Reading 0 string) first (behind ++ rest)
      ≡ Reading (length behind) (string ++ octet ∷ [])

-- the steps of a byte that is no quote
bare_step : (string : List ℕ) (b : ℕ) (rest : List ℕ) → (b ≡ quote → ⊥) → (b ≡ backslash → ⊥)
    → is_printable b ≡ true → after_byte (Reading 0 string) b rest ≡ Reading 0 (string ++ b ∷ [])
bare_step string b rest q s printable =
    let x = ne_eqb b quote q in let y = ne_eqb b backslash s in rw (x, y, printable) refl

other_step : (string : List ℕ) (b : ℕ) (rest : List ℕ) → (b ≡ quote → ⊥) → (b ≡ backslash → ⊥)
    → is_printable b ≡ false → after_byte (Reading 0 string) b rest ≡ Broken
other_step string b rest q s printable =
    let x = ne_eqb b quote q in let y = ne_eqb b backslash s in rw (x, y, printable) refl

marked_step : (string rest : List ℕ) → is_escaped (slice_index rest 0) ≡ true
    → after_byte (Reading 0 string) backslash rest ≡ Reading 1 (string ++ slice_index rest 0 ∷ [])
marked_step string rest marked = rw marked refl

escape_step : (string rest : List ℕ) → is_escaped (slice_index rest 0) ≡ false
    → has_octal rest ≡ true
    → after_byte (Reading 0 string) backslash rest ≡ Reading 3 (string ++ octal_of rest ∷ [])
escape_step string rest unmarked has = rw (unmarked, has) refl

broken_step : (string rest : List ℕ) → is_escaped (slice_index rest 0) ≡ false
    → has_octal rest ≡ false → after_byte (Reading 0 string) backslash rest ≡ Broken
broken_step string rest unmarked has = rw (unmarked, has) refl

bare_taken : (piece rest : List ℕ) (octet : ℕ) → IsBareInString octet → piece ≡ octet ∷ []
    → IsTaken piece rest octet
bare_taken piece rest octet b e = record {
  first = octet;
  behind = [];
  bytes = e;
  takes = λ string. bare_step string octet rest b.no_quote b.no_backslash
      (and_from _ _ (le-leb 0x20 octet b.at_least_space)
      (le-leb octet 0x7E (omega (arith, b.below_delete))));
}

is_marked : (b : ℕ) → (b ≡ quote) ⊎ (b ≡ backslash) → is_escaped b ≡ true
is_marked b m = elim m [
  | inl e ↦ or_left (b == quote) (b == backslash) (eq-eqb b quote e)
  | inr e ↦ or_right (b == quote) (b == backslash) (eq-eqb b backslash e)
]

marked_taken : (piece rest : List ℕ) (octet : ℕ) → (octet ≡ quote) ⊎ (octet ≡ backslash)
    → piece ≡ backslash ∷ octet ∷ [] → IsTaken piece rest octet
marked_taken piece rest octet m e = record {
  first = backslash;
  behind = octet ∷ [];
  bytes = e;
  takes = λ string. marked_step string (octet ∷ rest) (is_marked octet m);
}

escape_taken : (piece rest : List ℕ) (octet : ℕ) → IsEscape piece octet → IsTaken piece rest octet
escape_taken piece rest octet e =
    let digits : List ℕ = (0x30 + e.first) ∷ (0x30 + e.second) ∷ (0x30 + e.third) ∷ [] in
    let has : has_octal (digits ++ rest) ≡ true =
    three_digits e.first e.second e.third rest e.digits.0 e.digits.1 e.digits.2
    (omega (arith, e.value, e.small)) in
    let value : octal_of (digits ++ rest) ≡ octet = omega (arith, e.value) in
    let small = e.digits.0 in
    let unmarked : is_escaped (0x30 + e.first) ≡ false =
    or_from (0x30 + e.first == quote) (0x30 + e.first == backslash)
    (ne_eqb (0x30 + e.first) quote (λ q. omega arith))
    (ne_eqb (0x30 + e.first) backslash (λ q. omega arith)) in
    record {
      first = backslash;
      behind = digits;
      bytes = e.spelled;
      takes = λ string. escape_step string (digits ++ rest) unmarked has
          ∙ ap (λ v. Reading 3 (string ++ v ∷ [])) value;
    }

taken : (piece rest : List ℕ) (octet : ℕ) → IsStringCharacter piece octet
    → IsTaken piece rest octet
taken piece rest octet c = elim c [
  | inl b ↦ bare_taken piece rest octet b.0 b.1
  | inr d ↦ elim d [
    | inl m ↦ marked_taken piece rest octet m.0 m.1
    | inr e ↦ escape_taken piece rest octet e
  ]
]

one_reads : (string piece rest : List ℕ) (octet : ℕ) → IsStringCharacter piece octet
    → read_from (Reading 0 string) (piece ++ rest)
    ≡ read_from (Reading 0 (string ++ octet ∷ [])) rest
one_reads string piece rest octet c =
    let t = taken piece rest octet c in
    ap (λ q. read_from (Reading 0 string) (q ++ rest)) t.bytes
    ∙ ap (λ p. read_from p (t.behind ++ rest)) (t.takes string)
    ∙ passed (length t.behind) (string ++ octet ∷ []) (t.behind ++ rest)
    (omega (arith, length-append t.behind rest))
    ∙ ap (read_from (Reading 0 (string ++ octet ∷ [])))
    (drop_at t.behind rest (length t.behind) refl)

all_read : (pieces : List (List ℕ)) (octets : List ℕ) → AllZip IsStringCharacter pieces octets
    → (string rest : List ℕ)
    → read_from (Reading 0 string) (concat pieces ++ rest)
    ≡ read_from (Reading 0 (string ++ octets)) rest
all_read [] [] h string rest = ap (λ s. read_from (Reading 0 s) rest) (sym (append-nil string))
all_read [] (octet ∷ octets) h string rest = absurd h
all_read (piece ∷ pieces) [] h string rest = absurd h
all_read (piece ∷ pieces) (octet ∷ octets) h string rest =
    ap (read_from (Reading 0 string)) (append_assoc piece (concat pieces) rest)
    ∙ one_reads string piece (concat pieces ++ rest) octet h.0
    ∙ all_read pieces octets h.1 (string ++ octet ∷ []) rest
    ∙ ap (λ s. read_from (Reading 0 s) rest) (append_assoc string (octet ∷ []) octets)

-- what is spelled is read
pub string_read : (text string : List ℕ) → SpellsString text string
    → string_of_text text ≡ Some string
string_read text string s =
    let bytes : text ≡ quote ∷ (concat s.characters.pieces ++ quote ∷ []) =
    s.quoted ∙ ap (λ t. quote ∷ (t ++ quote ∷ [])) s.characters.together in
    ap string_of_text bytes
    ∙ ap at_the_end (all_read s.characters.pieces string s.characters.each [] (quote ∷ []))
    ∙ cond-true (nat_le (length string) 255) (Some string) None (le-leb (length string) 255 s.short)

-- What stands before the rest of a text is a character, if the text reads as a string.
record Next (b : ℕ) (rest string result : List ℕ) : Type 0 where
  piece : List ℕ
  octet : ℕ
  behind : List ℕ
  character : IsStringCharacter piece octet
  bytes : b ∷ rest ≡ piece ++ behind
  shorter : length behind ≤ length rest
  goes : at_the_end (read_from (Reading 0 (string ++ octet ∷ [])) behind) ≡ Some result

never : (string : List ℕ) (b : ℕ) (rest result : List ℕ)
    → after_byte (Reading 0 string) b rest ≡ Broken
    → at_the_end (read_from (after_byte (Reading 0 string) b rest) rest) ≡ Some result → ⊥
never string b rest result e h =
    let k = ap at_the_end (ap (λ p. read_from p rest) e ∙ broken rest) in cc

marks : (b : ℕ) → is_escaped b ≡ true → (b ≡ quote) ⊎ (b ≡ backslash)
marks b h = elim (or_cases (b == quote) (b == backslash) h) [
  | inl e ↦ inl (eqb-true b quote e)
  | inr e ↦ inr (eqb-true b backslash e)
]

next_marked : (rest string result : List ℕ) → is_escaped (slice_index rest 0) ≡ true
    → at_the_end (read_from (after_byte (Reading 0 string) backslash rest) rest) ≡ Some result
    → Next backslash rest string result
next_marked [] string result m h = absurd (cc)
next_marked (x ∷ rest) string result m h = record {
  piece = backslash ∷ x ∷ [];
  octet = x;
  behind = rest;
  character = inr (inl (marks x m, refl));
  bytes = refl;
  shorter = omega arith;
  goes = ap (λ p. at_the_end (read_from p (x ∷ rest))) (sym (marked_step string (x ∷ rest) m)) ∙ h;
}

next_escape : (rest string result : List ℕ) → is_escaped (slice_index rest 0) ≡ false
    → has_octal rest ≡ true
    → at_the_end (read_from (after_byte (Reading 0 string) backslash rest) rest) ≡ Some result
    → Next backslash rest string result
next_escape rest string result unmarked has h =
    let a = escape_at rest has in
    record {
      piece = a.piece;
      octet = a.octet;
      behind = a.behind;
      character = inr (inr a.escape);
      bytes = a.bytes;
      shorter = omega (arith, a.size);
      goes =
          ap (λ t. at_the_end (read_from (Reading 0 (string ++ a.octet ∷ [])) t)) (sym a.later)
          ∙ ap (λ v. at_the_end (read_from (Reading 0 (string ++ v ∷ [])) (drop 3 rest)))
          (sym a.value)
          ∙ ap at_the_end (sym (passed 3 (string ++ octal_of rest ∷ []) rest
          (omega (arith, a.size))))
          ∙ ap (λ p. at_the_end (read_from p rest)) (sym (escape_step string rest unmarked has))
          ∙ h;
    }

next_bare : (b : ℕ) (rest string result : List ℕ) → (b ≡ quote → ⊥) → (b ≡ backslash → ⊥)
    → is_printable b ≡ true
    → at_the_end (read_from (after_byte (Reading 0 string) b rest) rest) ≡ Some result
    → Next b rest string result
next_bare b rest string result q s printable h =
    let p = and_parts (nat_le 0x20 b) (nat_le b 0x7E) printable in
    let low = leb-true 0x20 b p.0 in
    let high = leb-true b 0x7E p.1 in
    record {
      piece = b ∷ [];
      octet = b;
      behind = rest;
      character = inl (
        record {
          at_least_space = low;
          below_delete = omega arith;
          no_quote = q;
          no_backslash = s;
        },
        refl,
      );
      bytes = refl;
      shorter = omega arith;
      goes = ap (λ p. at_the_end (read_from p rest)) (sym (bare_step string b rest q s printable))
          ∙ h;
    }

next : (b : ℕ) (rest string result : List ℕ) → (b ≡ quote → ⊥)
    → at_the_end (read_from (after_byte (Reading 0 string) b rest) rest) ≡ Some result
    → Next b rest string result
next b rest string result q h = elim (cases_eq b backslash) [
  | inl e ↦
      subst (λ x. Next x rest string result) (sym e) (at_backslash
      (subst (λ x. at_the_end (read_from (after_byte (Reading 0 string) x rest) rest) ≡ Some result) e h))
  | inr s ↦ elim (cases_Bool (is_printable b)) [
    | inl printable ↦ next_bare b rest string result q s printable h
    | inr other ↦ absurd (never string b rest result (other_step string b rest q s other) h)
  ]
]
  where
    at_backslash : at_the_end (read_from (after_byte (Reading 0 string) backslash rest) rest) ≡ Some result
        → Next backslash rest string result
    at_backslash k = elim (cases_Bool (is_escaped (slice_index rest 0))) [
      | inl marked ↦ next_marked rest string result marked k
      | inr unmarked ↦ elim (cases_Bool (has_octal rest)) [
        | inl has ↦ next_escape rest string result unmarked has k
        | inr none ↦ absurd (never string backslash rest result
            (broken_step string rest unmarked none) k)
      ]
    ]

-- the closing quote
closing : (text inside string : List ℕ) (rest result : List ℕ)
    → AreCharacters IsStringCharacter inside string
    → text ≡ quote ∷ (inside ++ quote ∷ rest)
    → at_the_end (read_from (Closed string) rest) ≡ Some result → SpellsString text result
closing text inside string [] result c here h = elim (cases_Bool (nat_le (length string) 255)) [
  | inl short ↦
      let k = cond-true (nat_le (length string) 255) (Some string) None short in
      let same : string ≡ result = cc in
      subst (SpellsString text) same (record {
        inside = inside;
        characters = c;
        quoted = here;
        short = leb-true (length string) 255 short;
      })
  | inr long ↦
      let k = cond-false (nat_le (length string) 255) (Some string) None long in absurd (cc)
]
closing text inside string (b ∷ rest) result c here h =
    let k = ap at_the_end (broken rest) in absurd (cc)

scan : (n : ℕ) (text inside string rest result : List ℕ) → length rest ≤ n
    → AreCharacters IsStringCharacter inside string → text ≡ quote ∷ (inside ++ rest)
    → at_the_end (read_from (Reading 0 string) rest) ≡ Some result → SpellsString text result
scan n text inside string [] result short c here h = absurd (cc)
scan zero text inside string (b ∷ rest) result short c here h = absurd (omega arith)
scan (suc n) text inside string (b ∷ rest) result short c here h = elim (cases_eq b quote) [
  | inl e ↦
      closing text inside string rest result c (here ∙ ap (λ x. quote ∷ (inside ++ x ∷ rest)) e)
      (subst (λ x. at_the_end (read_from (after_byte (Reading 0 string) x rest) rest) ≡ Some result) e h)
  | inr other ↦
      let k = next b rest string result other h in
      scan n text (inside ++ k.piece) (string ++ k.octet ∷ []) k.behind result
      (omega (arith, k.shorter))
      (characters_push IsStringCharacter inside string k.piece k.octet c k.character)
      (here ∙ ap (λ t. quote ∷ (inside ++ t)) k.bytes
      ∙ ap (λ t. quote ∷ t) (sym (append_assoc inside k.piece k.behind)))
      k.goes
]

-- and what is read is spelled
pub string_spelled : (text string : List ℕ) → string_of_text text ≡ Some string
    → SpellsString text string
string_spelled [] string h = absurd (cc)
string_spelled (b ∷ rest) string h = elim (cases_eq b quote) [
  | inl e ↦
      scan (length rest) (b ∷ rest) [] [] rest string (omega arith) (no_characters IsStringCharacter)
      (ap (λ x. x ∷ rest) e)
      (subst (λ x. at_the_end (read_from (after_byte Opening x rest) rest) ≡ Some string) e h)
  | inr other ↦
      let k = not_quoted (b ∷ rest) (ne_eqb (length (b ∷ rest)) 0 (λ z. omega arith)) other in absurd (cc)
]

pub strings_spelled : (text : List ℕ)
    → ((string : List ℕ) → (string_of_text text ≡ Some string) ↔ SpellsString text string)
    × ((string_of_text text ≡ None) ↔ ((string : List ℕ) → SpellsString text string → ⊥))
strings_spelled text = (
  λ string. (string_spelled text string, string_read text string),
  (
    λ e string s.
        let k = string_read text string s in cc,
    λ h. go (string_of_text text) refl h,
  ),
)
  where
    go : (o : Option (List ℕ)) → string_of_text text ≡ o
        → ((string : List ℕ) → SpellsString text string → ⊥) → string_of_text text ≡ None
    go None e h = e
    go (Some string) e h = absurd (h string (string_spelled text string e))

pub one_string : (text string other : List ℕ) → SpellsString text string
    → SpellsString text other → string ≡ other
one_string text string other s t =
    let a = string_read text string s in let b = string_read text other t in cc
