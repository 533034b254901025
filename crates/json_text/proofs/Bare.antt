-- Hexadecimal digits have no escapes.
use Rattle.std.proofs.Common.{◌≡◌, ℕ, zero, suc, ◌/◌, ◌%◌, ◌<◌, ◌==◌, List, [], ◌∷◌, ◌++◌, Bool, true}
use Rattle.std.proofs.Common.{◌&&◌, inl, inr, slice_index, get_or, refl, ap, ap₂, ◌∙◌, arith}
use Rattle.std.specs.Prelude.{nat_lt, not}
use Rattle.std.proofs.lemmas.Bool.{and_parts, cases_lt, eqb-false, ltb-true, not-true}
use Rattle.hex.specs.Hex.{encode_lower, encode_with, lower_digits}
use Rattle.json.specs.Print.{escape, escape_byte}
use Rattle.json_text.proofs.Escapes.{plain}

-- the test of one digit, which computes
abbrev is_bare : ℕ → Bool
is_bare d = nat_lt 47 (slice_index lower_digits d)
    && (not (slice_index lower_digits d == 92))

-- the test of the first n digits
abbrev are_bare : ℕ → Bool
are_bare zero = true
are_bare (suc n) = is_bare n && are_bare n

tested : (n k : ℕ) → are_bare n ≡ true → k < n → is_bare k ≡ true
tested zero k h lt = absurd (omega arith)
tested (suc n) k h lt =
    let parts = and_parts (is_bare n) (are_bare n) h in
    elim (cases_lt k n) [
      | inl below ↦ tested n k parts.1 below
      | inr top ↦
          let e : k ≡ n = omega arith in
          rw e parts.0
    ]

pub digit_is_bare : (d : ℕ) → d < 16
    → escape_byte (slice_index lower_digits d) ≡ slice_index lower_digits d ∷ []
digit_is_bare d h =
    let parts = and_parts (nat_lt 47 (slice_index lower_digits d))
    (not (slice_index lower_digits d == 92)) (tested 16 d refl h) in
    let above = ltb-true 47 (slice_index lower_digits d) parts.0 in
    let other = eqb-false (slice_index lower_digits d) 92 (not-true (slice_index lower_digits d == 92) parts.1) in
    plain (slice_index lower_digits d) (omega (arith, above)) (λ e. omega (arith, above, e)) other

-- the text of octets in digits, as it stands in quotes
pub digits_are_bare : (octets : List ℕ) → ((i : ℕ) → get_or octets i 0 < 256)
    → escape (encode_lower octets) ≡ encode_lower octets
unfolding encode_with
digits_are_bare [] h = refl
digits_are_bare (b ∷ rest) h =
    let byte : b < 256 = h 0 in
    let high = digit_is_bare (b / 16) (omega arith) in
    let low = digit_is_bare (b % 16) (omega arith) in
    ap₂ (λ x y. x ++ (y ++ escape (encode_lower rest))) high low
    ∙ ap (λ t. slice_index lower_digits (b / 16) ∷ slice_index lower_digits (b % 16) ∷ t)
    (digits_are_bare rest (λ i. h (suc i)))
