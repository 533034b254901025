-- Numbers that are read are those that were written.
use Rattle.std.proofs.Common.{◌≡◌, ℕ, ◌+◌, ◌*◌, ◌/◌, ◌%◌, ◌<◌, List, [], ◌∷◌, ◌++◌, arith, ap, ◌∙◌, sym, refl, append_assoc, Result, Ok, Err}
use Rattle.octets.specs.Numbers.{two_octets, four_octets}
use Rattle.octet_reading.specs.Reading.{◌>>=◌, octet_at, two_at, four_at}
use Rattle.octet_reading.proofs.Found.{IsBytes}

-- the value of a step that did not fail
pub bind_ok : {A B : Type 0} (read : Result A ℕ) (f : A → Result B ℕ) (y : B) → (read >>= f) ≡ Ok y
    → (x : A) × (read ≡ Ok x) × (f x ≡ Ok y)
bind_ok (Ok x) f y e = (x, refl, e)
bind_ok (Err left) f y e = absurd cc

abbrev done : {A : Type 0} → A → Result A ℕ
done x = Ok x

pub ok_is : {A : Type 0} (x y : A) → done x ≡ done y → x ≡ y
ok_is x y e = cc

-- one piece behind another
pub joined : (octets front middle back rest : List ℕ) → octets ≡ front ++ middle
    → middle ≡ back ++ rest → octets ≡ (front ++ back) ++ rest
joined octets front middle back rest e f = e ∙ ap (λ t. front ++ t) f
    ∙ sym (append_assoc front back rest)

pub octet_is : (octets : List ℕ) (x : ℕ × List ℕ) → octet_at octets ≡ Ok x → octets ≡ x.0 ∷ x.1
octet_is [] x e = absurd cc
octet_is (n ∷ rest) x e = ap (λ (p : ℕ × List ℕ). p.0 ∷ p.1) (ok_is (n, rest) x e)

two_digits : (a b : ℕ) → b < 256 → two_octets (a * 256 + b) ≡ a ∷ b ∷ []
two_digits a b below =
    let high : (a * 256 + b) / 256 ≡ a = omega (arith, below) in
    let low : (a * 256 + b) % 256 ≡ b = omega (arith, below) in
    cc

pub two_is : (octets : List ℕ) (x : ℕ × List ℕ) → IsBytes octets → two_at octets ≡ Ok x
    → (octets ≡ two_octets x.0 ++ x.1) × (x.0 < 65536)
two_is [] x bytes e = absurd cc
two_is (a ∷ []) x bytes e = absurd cc
two_is (a ∷ b ∷ rest) x bytes e =
    let first : a < 256 = bytes 0 in
    let second : b < 256 = bytes 1 in
    let same = ok_is (a * 256 + b, rest) x e in
    let whole : a ∷ b ∷ rest ≡ two_octets (a * 256 + b) ++ rest =
    ap (λ t. t ++ rest) (sym (two_digits a b second)) in
    let n : a * 256 + b ≡ x.0 = ap (λ (p : ℕ × List ℕ). p.0) same in
    (whole ∙ ap (λ (p : ℕ × List ℕ). two_octets p.0 ++ p.1) same, omega (arith, first, second, n))

pub two_again : (n : ℕ) (rest : List ℕ) → two_at (two_octets n ++ rest) ≡ Ok (n, rest)
two_again n rest = let e : n / 256 * 256 + n % 256 ≡ n = omega arith in ap (λ k. Ok (k, rest)) e

four_digits : (a b c d : ℕ) → b < 256 → c < 256 → d < 256
    → four_octets (a * 16777216 + b * 65536 + c * 256 + d) ≡ a ∷ b ∷ c ∷ d ∷ []
four_digits a b c d p q r =
    let n = a * 16777216 + b * 65536 + c * 256 + d in
    let first : n / 16777216 ≡ a = omega (arith, p, q, r) in
    let second : n / 65536 % 256 ≡ b = omega (arith, p, q, r) in
    let third : n / 256 % 256 ≡ c = omega (arith, p, q, r) in
    let fourth : n % 256 ≡ d = omega (arith, p, q, r) in
    cc

pub four_is : (octets : List ℕ) (x : ℕ × List ℕ) → IsBytes octets → four_at octets ≡ Ok x
    → octets ≡ four_octets x.0 ++ x.1
four_is [] x bytes e = absurd cc
four_is (a ∷ []) x bytes e = absurd cc
four_is (a ∷ b ∷ []) x bytes e = absurd cc
four_is (a ∷ b ∷ c ∷ []) x bytes e = absurd cc
four_is (a ∷ b ∷ c ∷ d ∷ rest) x bytes e =
    let second : b < 256 = bytes 1 in
    let third : c < 256 = bytes 2 in
    let fourth : d < 256 = bytes 3 in
    let same = ok_is (a * 16777216 + b * 65536 + c * 256 + d, rest) x e in
    ap (λ t. t ++ rest) (sym (four_digits a b c d second third fourth))
    ∙ ap (λ (p : ℕ × List ℕ). four_octets p.0 ++ p.1) same

pub four_again : (n : ℕ) (rest : List ℕ) → four_at (four_octets n ++ rest) ≡ Ok (n, rest)
four_again n rest =
    let e : n / 16777216 * 16777216 + n / 65536 % 256 * 65536 + n / 256 % 256 * 256 + n % 256 ≡ n =
    omega arith in
    ap (λ k. Ok (k, rest)) e
