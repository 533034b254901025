-- Texts of numbers.
use Rattle.std.proofs.Common.{◌≡◌, ◌≢◌, ℕ, ◌^◌, ◌<◌, List, [], ◌∷◌, drop, cond, arith, rules, ap, sym, refl, ◌∙◌, subst, Bool, true, false, zero, suc}
use Rattle.std.specs.Prelude.{slice_index, ◌==◌}
use Rattle.std.specs.Fmt.{decimal}
use Rattle.std.specs.Str.Parse.{AllDigits, IsNumeral, digits_value, without_leading_plus}
use Rattle.std.proofs.lemmas.Str.Parse.{IsNumeralModel, numerals_by_value}
use Rattle.std.proofs.lemmas.Bool.Decides.{Decides-eqb}
use Rattle.std.proofs.lemmas.Fmt.{decimal-digits_value, decimal_is_IsNumeral, decimal_digit, first_decimal, decimal_injective}
use Rattle.r53_cli.specs.Words.{IsUnpadded}

own : IsNumeralModel (AllDigits 10) (digits_value 10)
own = numerals_by_value (AllDigits 10) (search rules)

-- a text without a plus is read as it is
no_plus : (text : List ℕ) → slice_index text 0 ≢ 43 → without_leading_plus text ≡ text
no_plus text h = go (slice_index text 0 == 43) refl
  where
    go : (b : Bool) → (slice_index text 0 == 43) ≡ b → without_leading_plus text ≡ text
    go true e = absurd (h ((Decides-eqb (slice_index text 0) 43).0 e))
    go false e = subst (λ b. drop (cond b 1 0) text ≡ text) (sym e) refl

-- what `parse` reads of a text without a plus or a leading zero is that number in decimal digits
pub read_is_decimal : (text : List ℕ) (n : ℕ) → IsUnpadded text
    → IsNumeral 10 (without_leading_plus text)
    → digits_value 10 (without_leading_plus text) < 2 ^ 32
    → n ≡ digits_value 10 (without_leading_plus text) → text ≡ decimal n
read_is_decimal text n u numeral fits value =
    let same = no_plus text u.0 in
    let here : IsNumeral 10 text = subst (IsNumeral 10) same numeral in
    let small : digits_value 10 text < 2 ^ 32 = subst (λ t. digits_value 10 t < 2 ^ 32) same fits in
    let written = decimal-digits_value own text here.1 here.0 u.1 (omega arith) in
    sym written ∙ ap decimal (ap (digits_value 10) (sym same) ∙ sym value)

-- decimal digits have neither
pub decimal_unpadded : (n : ℕ) → n < 2 ^ 64 → IsUnpadded (decimal n)
decimal_unpadded zero h =
    let e : decimal 0 ≡ 48 ∷ [] = decimal_digit 0 (omega arith) in
    subst IsUnpadded (sym e) (λ k. absurd (omega arith), λ k. refl)
decimal_unpadded (suc m) h =
    let f = first_decimal (suc m) (omega arith) h in
    (λ k. absurd (omega arith), λ k. absurd (omega arith))

-- a text that `parse` refuses is no number in decimal digits
pub refused_is_none : (text : List ℕ)
    → (IsNumeral 10 (without_leading_plus text)
    × (digits_value 10 (without_leading_plus text) < 2 ^ 32) → ⊥) → (n : ℕ) → n < 2 ^ 32
    → text ≢ decimal n
refused_is_none text never n h e =
    let same : without_leading_plus text ≡ decimal n =
    no_plus text (subst IsUnpadded (sym e) (decimal_unpadded n (omega arith))).0 ∙ e in
    let d = decimal_is_IsNumeral n (omega arith) in
    never (subst (IsNumeral 10) (sym same) d.0, omega (arith, ap (digits_value 10) same, d.1))

-- another number in decimal digits is another text
pub same_number : (text : List ℕ) (m n : ℕ) → m < 2 ^ 64 → n < 2 ^ 64 → text ≡ decimal m
    → text ≡ decimal n → m ≡ n
same_number text m n a b p q = decimal_injective m n a b (sym p ∙ q)
