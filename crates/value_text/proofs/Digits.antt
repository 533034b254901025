-- Numbers as they are written, and read again.
use Rattle.std.proofs.Common.{◌≡◌, ℕ, ◌+◌, ◌-◌, ◌*◌, ◌/◌, ◌%◌, ◌^◌, ◌<◌, ◌≤◌, List, [], ◌∷◌, ◌++◌, length, length-append, ap}
use Rattle.std.proofs.Common.{arith, refl, ◌∙◌, Bool, true, false, cond, None, Some}
use Rattle.std.specs.Prelude.{nat_le}
use Rattle.std.specs.Fmt.{decimal}
use Rattle.std.proofs.lemmas.Fmt.{decimal_by_steps}
use Rattle.std.proofs.lemmas.Bool.{le-leb, and_from}
use Rattle.value_text.specs.Numbers.{is_digit, number_from, up_to, number}
use Rattle.value_text.proofs.Bounds.{filled}

-- one digit more
digit_is : (d : ℕ) → d < 10 → is_digit (48 + d) ≡ true
digit_is d h =
    and_from (nat_le 0x30 (48 + d)) (nat_le (48 + d) 0x39) (le-leb 0x30 (48 + d) (omega arith))
    (le-leb (48 + d) 0x39 (omega arith))

last_digit : (value d : ℕ) → d < 10 → number_from value ((48 + d) ∷ []) ≡ Some (value * 10 + d)
last_digit value d h =
    let e : value * 10 + (48 + d - 0x30) ≡ value * 10 + d = omega arith in
    ap (λ t. cond t (Some (value * 10 + (48 + d - 0x30))) None) (digit_is d h) ∙ ap (λ n. Some n) e

push : (value got : ℕ) (xs ys : List ℕ) → number_from value xs ≡ Some got
    → number_from value (xs ++ ys) ≡ number_from got ys
push value got [] ys h = let e : value ≡ got = cc in ap (λ n. number_from n ys) e
push value got (b ∷ rest) ys h =
    at_digit (is_digit b) refl h (push (value * 10 + (b - 0x30)) got rest ys)
  where
    at_digit : (t : Bool) → is_digit b ≡ t
        → cond t (number_from (value * 10 + (b - 0x30)) rest) None ≡ Some got
        → (number_from (value * 10 + (b - 0x30)) rest ≡ Some got
        → number_from (value * 10 + (b - 0x30)) (rest ++ ys) ≡ number_from got ys)
        → cond (is_digit b) (number_from (value * 10 + (b - 0x30)) (rest ++ ys)) None
        ≡ number_from got ys
    at_digit true e g more =
        ap (λ t. cond t (number_from (value * 10 + (b - 0x30)) (rest ++ ys)) None) e ∙ more g
    at_digit false e g more = absurd (cc)

abbrev IsWritten : ℕ → List ℕ → Type 0
IsWritten n digits = (0 < length digits) × (number_from 0 digits ≡ Some n)

one : (n : ℕ) → n < 10 → IsWritten n ((48 + n) ∷ [])
one n h =
    (omega arith, last_digit 0 n h ∙ ap (λ m. Some m) (let e : 0 * 10 + n ≡ n = omega arith in e))

more : (n : ℕ) (digits : List ℕ) → 10 ≤ n → IsWritten (n / 10) digits
    → IsWritten n (digits ++ (48 + n % 10) ∷ [])
more n digits h w =
    let e : n / 10 * 10 + n % 10 ≡ n = omega arith in
    let l = length-append digits ((48 + n % 10) ∷ []) in (
      omega arith,
      push 0 (n / 10) digits ((48 + n % 10) ∷ []) w.1
          ∙ last_digit (n / 10) (n % 10) (omega arith) ∙ ap (λ m. Some m) e,
    )

pub reads_back : (n most : ℕ) → n ≤ most → n < 2 ^ 64 → number most (decimal n) ≡ Some n
reads_back n most h small =
    let w = decimal_by_steps IsWritten one more n small in
    filled most (decimal n) w.0 ∙ ap (up_to most) w.1
    ∙ ap (λ t. cond t (Some n) None) (le-leb n most h)
