-- What stands in front of a place, as the text of a name.
use Rattle.std.proofs.Common.{◌≡◌, ℕ, ◌+◌, ◌-◌, ◌*◌, ◌≤◌, List, [], ◌∷◌, ◌++◌, length, drop, arith, ap, ◌∙◌, sym, refl, subst, inl, inr}
use Rattle.std.proofs.Common.{true, false, append-nil}
use Rattle.std.specs.Prelude.{nat_le, ◌&&◌, slice_index}
use Rattle.std.specs.List.{AllZip, concat, flat_map}
use Rattle.std.proofs.lemmas.Bool.{and_parts, leb-true, both_ways}
use Rattle.octets.specs.Octal.{is_octal_digit, octal_of, has_octal}
use Rattle.text_meanings.specs.Characters.{dot, backslash, IsEscape, IsCharacter}
use Rattle.text_meanings.specs.Names.{SpellsLabel, SpellsName, SpellsLabels, between, IsTextOf, GoesOn}
use Rattle.text_meanings.specs.Faults.{IsFront, labels_so_far}
use Rattle.text_meanings.proofs.Pieces.{all_zip_push, between_dots, between_push}
use Rattle.text_meanings.proofs.Reading.{three_digits}

no_octets : (text : List ℕ) → SpellsLabel text [] → text ≡ []
no_octets text s = go s.pieces s.each s.together
  where
    go : (pieces : List (List ℕ)) → AllZip IsCharacter pieces [] → text ≡ concat pieces → text ≡ []
    go [] h e = e
    go (piece ∷ pieces) h e = absurd h

no_texts : (texts : List (List ℕ)) → AllZip SpellsLabel texts []
    → flat_map (λ text. text ++ dot ∷ []) texts ≡ []
no_texts [] h = refl
no_texts (text ∷ texts) h = absurd h

some_texts : (texts : List (List ℕ)) (label : List ℕ) (labels : List (List ℕ))
    → AllZip SpellsLabel texts (label ∷ labels)
    → flat_map (λ text. text ++ dot ∷ []) texts ≡ between dot texts ++ dot ∷ []
some_texts [] label labels h = absurd h
some_texts (text ∷ texts) label labels h = sym (between_dots dot text texts)

last_one : (text : List ℕ) (done : List (List ℕ)) (label : List ℕ)
    → SpellsLabels text (done ++ label ∷ []) → SpellsName text (done ++ label ∷ [])
last_one text [] label s = s
last_one text (first ∷ done) label s = s

-- a front that isn't empty is the text of the labels so far
pub text_of_front : (text : List ℕ) (done : List (List ℕ)) (label : List ℕ)
    → (text ≡ [] → ⊥) → IsFront text done label → IsTextOf text (labels_so_far done label)
text_of_front text [] [] some f =
    absurd (some (f.together
    ∙ ap (λ t. t ++ f.part) (no_texts f.texts f.whole) ∙ no_octets f.part f.begun))
text_of_front text (first ∷ done) [] some f = record {
  spelled = record {
    texts = f.texts;
    each = f.whole;
    together = inr (f.together ∙ ap (λ t. flat_map (λ text. text ++ dot ∷ []) f.texts ++ t)
        (no_octets f.part f.begun)
        ∙ append-nil (flat_map (λ text. text ++ dot ∷ []) f.texts)
        ∙ some_texts f.texts first done f.whole);
  };
  name = f.name;
}
text_of_front text done (b ∷ label) some f = record {
  spelled = last_one text done (b ∷ label) (record {
    texts = f.texts ++ f.part ∷ [];
    each = all_zip_push SpellsLabel f.texts done f.part (b ∷ label) f.whole f.begun;
    together = inl (f.together ∙ sym (between_push dot f.texts f.part));
  });
  name = f.name;
}

-- the root's
pub root_named : (text : List ℕ) → text ≡ dot ∷ [] → IsTextOf text []
root_named text e = record { spelled = e; name = record { each = tt; fits = omega arith } }

-- a front could go on to a name's text
pub front_goes_on : (before : List ℕ) (done : List (List ℕ)) (label : List ℕ)
    → IsFront before done label → GoesOn before
front_goes_on [] done label f = (dot ∷ [], [], root_named (dot ∷ []) refl)
front_goes_on (b ∷ before) done label f = (
  [],
  labels_so_far done label,
  subst (λ t. IsTextOf t (labels_so_far done label)) (sym (append-nil (b ∷ before)))
      (text_of_front (b ∷ before) done label (λ e. cc) f),
)

-- an escape that stands behind a backslash
pub record EscapeAt (rest : List ℕ) : Type 0 where
  pub piece : List ℕ
  pub octet : ℕ
  pub behind : List ℕ
  pub escape : IsEscape piece octet
  pub bytes : backslash ∷ rest ≡ piece ++ behind
  pub value : octal_of rest ≡ octet
  pub later : drop 3 rest ≡ behind
  pub size : length rest ≡ length behind + 3

record AreDigits (rest : List ℕ) : Type 0 where
  first : (0x30 ≤ slice_index rest 0) × (slice_index rest 0 ≤ 0x37)
  second : (0x30 ≤ slice_index rest 1) × (slice_index rest 1 ≤ 0x37)
  third : (0x30 ≤ slice_index rest 2) × (slice_index rest 2 ≤ 0x37)
  small : octal_of rest ≤ 255

digit : (b : ℕ) → is_octal_digit b ≡ true → (0x30 ≤ b) × (b ≤ 0x37)
digit b e = let p = and_parts (nat_le 0x30 b) (nat_le b 0x37) e in
    (leb-true 0x30 b p.0, leb-true b 0x37 p.1)

digits : (rest : List ℕ) → has_octal rest ≡ true → AreDigits rest
digits rest e =
    let a = slice_index rest 0 in
    let b = slice_index rest 1 in
    let c = slice_index rest 2 in
    let p = and_parts (is_octal_digit a && is_octal_digit b && is_octal_digit c)
    (nat_le (octal_of rest) 255) e in
    let q = and_parts (is_octal_digit a && is_octal_digit b) (is_octal_digit c) p.0 in
    let r = and_parts (is_octal_digit a) (is_octal_digit b) q.0 in
    record {
      first = digit a r.0;
      second = digit b r.1;
      third = digit c q.1;
      small = leb-true (octal_of rest) 255 p.1;
    }

pub escape_at : (rest : List ℕ) → has_octal rest ≡ true → EscapeAt rest
escape_at [] e = absurd (let d = (digits [] e).first.0 in omega arith)
escape_at (a ∷ []) e = absurd (let d = (digits (a ∷ []) e).second.0 in omega arith)
escape_at (a ∷ b ∷ []) e = absurd (let d = (digits (a ∷ b ∷ []) e).third.0 in omega arith)
escape_at (a ∷ b ∷ c ∷ rest) e =
    let d = digits (a ∷ b ∷ c ∷ rest) e in
    let x : (0x30 ≤ a) × (a ≤ 0x37) = d.first in
    let y : (0x30 ≤ b) × (b ≤ 0x37) = d.second in
    let z : (0x30 ≤ c) × (c ≤ 0x37) = d.third in
    let s : (a - 0x30) * 64 + (b - 0x30) * 8 + (c - 0x30) ≤ 255 = d.small in
    let i : a ≡ 0x30 + (a - 0x30) = omega arith in
    let j : b ≡ 0x30 + (b - 0x30) = omega arith in
    let k : c ≡ 0x30 + (c - 0x30) = omega arith in
    record {
      piece = backslash ∷ (0x30 + (a - 0x30)) ∷ (0x30 + (b - 0x30)) ∷ (0x30 + (c - 0x30)) ∷ [];
      octet = (a - 0x30) * 64 + (b - 0x30) * 8 + (c - 0x30);
      behind = rest;
      escape = record {
        first = a - 0x30;
        second = b - 0x30;
        third = c - 0x30;
        digits = (omega arith, omega arith, omega arith);
        value = refl;
        small = s;
        spelled = refl;
      };
      bytes = cc;
      value = refl;
      later = refl;
      size = omega arith;
    }

-- and where none stands
pub no_escape : (rest piece behind : List ℕ) (octet : ℕ) → has_octal rest ≡ false
    → IsEscape piece octet → backslash ∷ rest ≡ piece ++ behind → ⊥
no_escape rest piece behind octet absent e bytes =
    let whole : backslash ∷ rest ≡ backslash ∷ (0x30 + e.first) ∷ (0x30 + e.second)
    ∷ (0x30 + e.third) ∷ behind = bytes ∙ ap (λ t. t ++ behind) e.spelled in
    let digits : rest ≡ (0x30 + e.first) ∷ (0x30 + e.second) ∷ (0x30 + e.third) ∷ behind = cc in
    both_ways (has_octal rest) absent (ap has_octal digits
    ∙ three_digits e.first e.second e.third behind e.digits.0 e.digits.1 e.digits.2
    (omega (arith, e.value, e.small)))
