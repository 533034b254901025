-- What the text of a single field reads as is what is written there.
use Rattle.std.proofs.Common.{◌≡◌, ℕ, ◌+◌, ◌-◌, ◌*◌, ◌^◌, ◌≤◌, List, [], ◌∷◌, length, arith, ap, ◌∙◌, sym, refl, subst}
use Rattle.std.proofs.Common.{true, false, Bool, cond, Option, None, Some}
use Rattle.std.specs.Prelude.{nat_le, ◌↔◌}
use Rattle.std.specs.List.{AllZip}
use Rattle.std.proofs.lemmas.Bool.{and_from, and_parts, le-leb, leb-true, cond-true}
use Rattle.std.proofs.lemmas.List.Elements.{length_all_zip}
use Rattle.std.proofs.Math.Nat.{pow-suc}
use Rattle.value_text.specs.Numbers.{is_digit, number_from, up_to, number}
use Rattle.value_text.proofs.Bounds.{filled}
use Rattle.dns_name.specs.Labels.{wire, lowered}
use Rattle.field_text.specs.FieldRecord.{Field}
use Rattle.field_text.specs.FieldRecord.TheVariants as field
use Rattle.field_text.specs.Spelling.{Spells}
use Rattle.text_meanings.specs.Kinds.{IsDigit, value_of, SpellsNumber, SpellsField}
use Rattle.text_meanings.proofs.Told.{names_spelled}

-- the digits so far count ten times as much with one more behind them
more_digits : (value digit power later : ℕ)
    → (value * 10 + digit) * power + later ≡ value * (power * 10) + (digit * power + later)
more_digits value digit power later = omega arith

digit_seen : (b digit : ℕ) → IsDigit b digit → is_digit b ≡ true
digit_seen b digit h =
    and_from _ _ (le-leb 0x30 b (omega (arith, h.1))) (le-leb b 0x39 (omega (arith, h.0, h.1)))

digits_read : (text digits : List ℕ) (value : ℕ) → AllZip IsDigit text digits
    → number_from value text ≡ Some (value * 10 ^ length digits + value_of digits)
digits_read [] [] value h = ap Some (let e : value ≡ value * 1 + 0 = omega arith in e)
digits_read [] (digit ∷ digits) value h = absurd h
digits_read (b ∷ text) [] value h = absurd h
digits_read (b ∷ text) (digit ∷ digits) value h =
    let e : b - 0x30 ≡ digit = omega (arith, h.0.1) in
    cond-true (is_digit b) (number_from (value * 10 + (b - 0x30)) text) None (digit_seen b digit h.0)
    ∙ ap (λ d. number_from (value * 10 + d) text) e
    ∙ digits_read text digits (value * 10 + digit) h.1
    ∙ ap Some (more_digits value digit (10 ^ length digits) (value_of digits)
    ∙ ap (λ p. value * p + (digit * 10 ^ length digits + value_of digits))
    (sym (pow-suc 10 (length digits))))

-- the digits of a text that reads as a number
record Digits (text : List ℕ) : Type 0 where
  digits : List ℕ
  each : AllZip IsDigit text digits

digits_of : (text : List ℕ) (value n : ℕ) → number_from value text ≡ Some n → Digits text
digits_of [] value n h = record { digits = []; each = tt }
digits_of (b ∷ text) value n h =
    go (is_digit b) refl h (λ k. digits_of text (value * 10 + (b - 0x30)) n k)
  where
    go : (t : Bool) → is_digit b ≡ t
        → cond t (number_from (value * 10 + (b - 0x30)) text) None ≡ Some n
        → (number_from (value * 10 + (b - 0x30)) text ≡ Some n → Digits text) → Digits (b ∷ text)
    go true e k rest =
        let p = and_parts (nat_le 0x30 b) (nat_le b 0x39) e in
        let low = leb-true 0x30 b p.0 in
        let high = leb-true b 0x39 p.1 in
        let d = rest k in
        record { digits = (b - 0x30) ∷ d.digits; each = ((omega arith, omega arith), d.each) }
    go false e k rest = absurd (cc)

number_read : (most : ℕ) (text : List ℕ) (n : ℕ) → SpellsNumber most text n
    → number most text ≡ Some n
number_read most text n s =
    let size = length_digits text s.digits s.each in
    let value : 0 * 10 ^ length s.digits + value_of s.digits ≡ n = omega (arith, s.value) in
    filled most text (omega (arith, s.some))
    ∙ ap (up_to most) (digits_read text s.digits 0 s.each ∙ ap Some value)
    ∙ cond-true (nat_le n most) (Some n) None (le-leb n most s.small)
  where
    length_digits : (xs ys : List ℕ) → AllZip IsDigit xs ys → length xs ≡ length ys
    length_digits xs ys h = length_all_zip IsDigit xs ys h

-- a number that is found isn't above its bound
record UpTo (most : ℕ) (found : Option ℕ) (n : ℕ) : Type 0 where
  found_is : found ≡ Some n
  small : n ≤ most

up_to_some : (most : ℕ) (found : Option ℕ) (n : ℕ) → up_to most found ≡ Some n → UpTo most found n
up_to_some most None n h = absurd (cc)
up_to_some most (Some m) n h = go (nat_le m most) refl h
  where
    go : (t : Bool) → nat_le m most ≡ t → cond t (Some m) None ≡ Some n → UpTo most (Some m) n
    go true e k =
        let same : m ≡ n = cc in
        let small = leb-true m most e in
        record { found_is = k; small = subst (λ x. x ≤ most) same small }
    go false e k = absurd (cc)

number_spelled : (most : ℕ) (text : List ℕ) (n : ℕ) → number most text ≡ Some n
    → SpellsNumber most text n
number_spelled most [] n h = absurd (cc)
number_spelled most (b ∷ text) n h =
    let u = up_to_some most (number_from 0 (b ∷ text)) n h in
    let d = digits_of (b ∷ text) 0 n u.found_is in
    let r = digits_read (b ∷ text) d.digits 0 d.each in
    let k = sym u.found_is ∙ r in
    let same : n ≡ 0 * 10 ^ length d.digits + value_of d.digits = cc in
    record {
      digits = d.digits;
      each = d.each;
      some = omega (arith, length_all_zip IsDigit (b ∷ text) d.digits d.each);
      value = omega (arith, same);
      small = u.small;
    }

pub numbers_spelled : (most : ℕ) (text : List ℕ) (n : ℕ)
    → (number most text ≡ Some n) ↔ SpellsNumber most text n
numbers_spelled most text n = (number_spelled most text n, number_read most text n)

-- A field of a kind.
pub fields_spelled : (field : Field) (text octets : List ℕ)
    → Spells field text octets ↔ SpellsField field text octets
fields_spelled field.Ipv4 text octets = (λ s. s, λ s. s)
fields_spelled field.Ipv6 text octets = (λ s. s, λ s. s)
fields_spelled field.Name text octets = (
  λ s.
      let k = (names_spelled text s.0).0 s.1 in (k.0, k.1, s.2 ∙ ap wire k.2),
  λ s.
      (lowered s.0, (names_spelled text (lowered s.0)).1 (s.0, s.1, refl), s.2),
)
fields_spelled field.Number8 text octets = (
  λ s. (s.0, number_spelled 255 text s.0 s.1, s.2),
  λ s.
      (s.0, number_read 255 text s.0 s.1, s.2),
)
fields_spelled field.Number16 text octets = (
  λ s. (s.0, number_spelled 65535 text s.0 s.1, s.2),
  λ s.
      (s.0, number_read 65535 text s.0 s.1, s.2),
)
fields_spelled field.Number32 text octets = (
  λ s. (
    s.0,
    number_spelled 4294967295 text s.0 s.1,
    s.2,
  ),
  λ s. (s.0, number_read 4294967295 text s.0 s.1, s.2),
)
fields_spelled field.Tag text octets = (λ s. s, λ s. s)
