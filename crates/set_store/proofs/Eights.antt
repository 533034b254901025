-- Octets compared some at a time: as numbers of four, and by the ends of all.
use Rattle.std.proofs.Common.{◌≡◌, ◌≢◌, ℕ, zero, suc, ◌+◌, ◌-◌, ◌*◌, ◌<◌, ◌≤◌, List, [], ◌∷◌, ◌++◌, take, drop, length, get_or, ap, ◌∙◌, sym, refl, subst, inl, inr, Bool, true, false, Less, Equal, Greater, arith}
use Rattle.std.specs.Prelude.{if◌then◌else◌, nat_lt, slice_index}
use Rattle.std.specs.declared.cmp.Ordering.{Ordering}
use Rattle.std.specs.Cmp.{nat_cmp_is}
use Rattle.std.specs.Cmp.Lexicographic.{slice_cmp}
use Rattle.std.specs.Ordering.{nat_cmp, ordering_reverse, ordering_then}
use Rattle.std.proofs.lemmas.Cmp.{nat_list_cmp_total}
use Rattle.std.proofs.lemmas.Bool.{cases_order}
use Rattle.std.proofs.lemmas.List.{take-append-drop, take_all, drop-drop, length-drop}
use Rattle.octets.specs.Numbers.{long_at}
use Rattle.set_store.proofs.Beside.{inside}

-- octets of which so many at the front and so many at the end are told, and that are at most twice
-- as many
pub same_by_ends : (k : ℕ) (xs ys last other_last : List ℕ) → length xs ≡ length ys
    → last ≡ drop (length ys - k) xs → other_last ≡ drop (length ys - k) ys
    → k ≤ length ys → length ys ≤ k + k → take k last ≡ take k other_last → take k xs ≡ take k ys
    → xs ≡ ys
same_by_ends k xs ys last other_last size is its many few ends front =
    let n = length ys - k in
    let m = k + k - length ys in
    let at : n + m ≡ k = omega (arith, many, few) in
    let own : length last ≤ k =
    (let e = length-drop n xs in let f : length last ≡ length (drop n xs) = ap length is in
    omega (arith, e, f, size, many)) in
    let others : length other_last ≤ k =
    (let e = length-drop n ys in let f : length other_last ≡ length (drop n ys) = ap length its in
    omega (arith, e, f, many)) in
    let same : drop n xs ≡ drop n ys =
    sym is ∙ (sym (take_all k last own) ∙ (ends ∙ (take_all k other_last others ∙ its))) in
    let behind : drop k xs ≡ drop k ys =
    ap (λ i. drop i xs) (sym at)
    ∙ (sym (drop-drop m n xs)
    ∙ (ap (drop m) same ∙ (drop-drop m n ys ∙ ap (λ i. drop i ys) at))) in
    sym (take-append-drop k xs)
    ∙ (ap (λ zs. zs ++ drop k xs) front
    ∙ (ap (λ zs. take k ys ++ zs) behind ∙ take-append-drop k ys))

abbrev none : List ℕ
none = []

take_none : (n : ℕ) → take n none ≡ none
take_none zero = refl
take_none (suc n) = refl

take_sum : (m n : ℕ) (xs : List ℕ) → take (m + n) xs ≡ take m xs ++ take n (drop m xs)
take_sum zero n xs = ap (λ k. take k xs) (omega arith)
take_sum (suc m) n [] = take_none (suc m + n) ∙ sym (take_none n)
take_sum (suc m) n (x ∷ xs) =
    let one : suc m + n ≡ suc (m + n) = omega arith in
    ap (λ k. take k (x ∷ xs)) one ∙ ap (λ ys. x ∷ ys) (take_sum m n xs)

pub sixteen : (xs ys : List ℕ) → take 8 xs ≡ take 8 ys → take 8 (drop 8 xs) ≡ take 8 (drop 8 ys)
    → take 16 xs ≡ take 16 ys
sixteen xs ys first second =
    take_sum 8 8 xs
    ∙ (ap (λ (zs : List ℕ). zs ++ take 8 (drop 8 xs)) first
    ∙ (ap (λ (zs : List ℕ). take 8 ys ++ zs) second ∙ sym (take_sum 8 8 ys)))

pub second_of_sixteen : (xs ys : List ℕ) → take 16 xs ≡ take 16 ys
    → take 8 (drop 8 xs) ≡ take 8 (drop 8 ys)
second_of_sixteen xs ys e =
    sym (inside 8 8 16 xs (omega arith))
    ∙ (ap (λ (zs : List ℕ). take 8 (drop 8 zs)) e ∙ inside 8 8 16 ys (omega arith))

-- what is below is told so
lt_told : (a b : ℕ) → a < b → nat_lt a b ≡ true
lt_told a b lt = grind (arith, lt)

not_lt_told : (a b : ℕ) → b < a → nat_lt a b ≡ false
not_lt_told a b lt = grind (arith, lt)

-- one octet more
led : (x y : ℕ) (xs ys : List ℕ) → x < y → slice_cmp nat_cmp (x ∷ xs) (y ∷ ys) ≡ Less
led x y xs ys lt = ap (λ o. ordering_then o (slice_cmp nat_cmp xs ys)) (sym (nat_cmp_is x y Less lt))

tied : (x y : ℕ) (xs ys : List ℕ) → x ≡ y
    → slice_cmp nat_cmp (x ∷ xs) (y ∷ ys) ≡ slice_cmp nat_cmp xs ys
tied x y xs ys eq = ap (λ o. ordering_then o (slice_cmp nat_cmp xs ys)) (sym (nat_cmp_is x y Equal eq))

record AreOctets (a b c d : ℕ) : Type 0 where
  first : a < 256
  second : b < 256
  third : c < 256
  fourth : d < 256

module _ (a b c d p q r s : ℕ) (xs ys : List ℕ) (own : AreOctets a b c d) (others : AreOctets p q r s) where
  abbrev own_third : List ℕ
  own_third = c ∷ d ∷ xs

  abbrev other_third : List ℕ
  other_third = r ∷ s ∷ ys

  lower_third : c * 256 + d < r * 256 + s → slice_cmp nat_cmp own_third other_third ≡ Less
  lower_third lt =
      let u = own.fourth in let v = others.fourth in
      elim (cases_order c r) [
        | inl e ↦ tied c r (d ∷ xs) (s ∷ ys) e ∙ led d s xs ys (omega (arith, lt, e))
        | inr rest ↦ elim rest [
          | inl less ↦ led c r (d ∷ xs) (s ∷ ys) less
          | inr more ↦ absurd (omega (arith, lt, more, u, v))
        ]
      ]

  lower_second : b * 65536 + (c * 256 + d) < q * 65536 + (r * 256 + s)
      → slice_cmp nat_cmp (b ∷ own_third) (q ∷ other_third) ≡ Less
  lower_second lt =
      let t = own.third in let u = own.fourth in let w = others.third in let v = others.fourth in
      elim (cases_order b q) [
        | inl e ↦ tied b q own_third other_third e ∙ lower_third (omega (arith, lt, e))
        | inr rest ↦ elim rest [
          | inl less ↦ led b q own_third other_third less
          | inr more ↦ absurd (omega (arith, lt, more, t, u, w, v))
        ]
      ]

  lower : a * 16777216 + (b * 65536 + (c * 256 + d)) < p * 16777216 + (q * 65536 + (r * 256 + s))
      → slice_cmp nat_cmp (a ∷ b ∷ own_third) (p ∷ q ∷ other_third) ≡ Less
  lower lt =
      let k = own.second in let t = own.third in let u = own.fourth in
      let l = others.second in let w = others.third in let v = others.fourth in
      elim (cases_order a p) [
        | inl e ↦ tied a p (b ∷ own_third) (q ∷ other_third) e ∙ lower_second (omega (arith, lt, e))
        | inr rest ↦ elim rest [
          | inl less ↦ led a p (b ∷ own_third) (q ∷ other_third) less
          | inr more ↦ absurd (omega (arith, lt, more, k, t, u, l, w, v))
        ]
      ]

  same_four : a * 16777216 + (b * 65536 + (c * 256 + d)) ≡ p * 16777216 + (q * 65536 + (r * 256 + s))
      → (a ≡ p) × (b ≡ q) × (c ≡ r) × (d ≡ s)
  same_four e =
      let k = own.second in let t = own.third in let u = own.fourth in
      let l = others.second in let w = others.third in let v = others.fourth in
      let first : a ≡ p = omega (arith, e, k, t, u, l, w, v) in
      let second : b ≡ q = omega (arith, e, first, t, u, w, v) in
      let third : c ≡ r = omega (arith, e, first, second, u, v) in
      let fourth : d ≡ s = omega (arith, e, first, second, third) in
      (first, second, third, fourth)

  alike : a * 16777216 + (b * 65536 + (c * 256 + d)) ≡ p * 16777216 + (q * 65536 + (r * 256 + s))
      → slice_cmp nat_cmp (a ∷ b ∷ own_third) (p ∷ q ∷ other_third) ≡ slice_cmp nat_cmp xs ys
  alike e =
      let same = same_four e in
      tied a p (b ∷ own_third) (q ∷ other_third) same.0
      ∙ (tied b q own_third other_third same.1
      ∙ (tied c r (d ∷ xs) (s ∷ ys) same.2 ∙ tied d s xs ys same.3))

back : (xs ys : List ℕ) → slice_cmp nat_cmp ys xs ≡ Less → slice_cmp nat_cmp xs ys ≡ Greater
back xs ys e = nat_list_cmp_total.antisymm xs ys ∙ ap ordering_reverse e

-- octets of which the first four are there
record HasFour (xs : List ℕ) : Type 0 where
  a : ℕ
  b : ℕ
  c : ℕ
  d : ℕ
  rest : List ℕ
  is : xs ≡ a ∷ b ∷ c ∷ d ∷ rest

has_four : (xs : List ℕ) → 4 ≤ length xs → HasFour xs
has_four [] le = absurd (omega (arith, le))
has_four (a ∷ []) le = absurd (omega (arith, le))
has_four (a ∷ b ∷ []) le = absurd (omega (arith, le))
has_four (a ∷ b ∷ c ∷ []) le = absurd (omega (arith, le))
has_four (a ∷ b ∷ c ∷ d ∷ rest) le = record { a = a; b = b; c = c; d = d; rest = rest; is = refl }

-- each is an octet
abbrev AllOctets : List ℕ → Type 0
AllOctets xs = (i : ℕ) → get_or xs i 0 < 256

module _ (xs ys : List ℕ) (own_octets : AllOctets xs) (other_octets : AllOctets ys)
    (long : 4 ≤ length xs) (other_long : 4 ≤ length ys) where
  own : HasFour xs
  own = has_four xs long

  others : HasFour ys
  others = has_four ys other_long

  own_four : AreOctets own.a own.b own.c own.d
  own_four = record {
    first = subst (λ (zs : List ℕ). get_or zs 0 0 < 256) own.is (own_octets 0);
    second = subst (λ (zs : List ℕ). get_or zs 1 0 < 256) own.is (own_octets 1);
    third = subst (λ (zs : List ℕ). get_or zs 2 0 < 256) own.is (own_octets 2);
    fourth = subst (λ (zs : List ℕ). get_or zs 3 0 < 256) own.is (own_octets 3);
  }

  other_four : AreOctets others.a others.b others.c others.d
  other_four = record {
    first = subst (λ (zs : List ℕ). get_or zs 0 0 < 256) others.is (other_octets 0);
    second = subst (λ (zs : List ℕ). get_or zs 1 0 < 256) others.is (other_octets 1);
    third = subst (λ (zs : List ℕ). get_or zs 2 0 < 256) others.is (other_octets 2);
    fourth = subst (λ (zs : List ℕ). get_or zs 3 0 < 256) others.is (other_octets 3);
  }

  own_number : long_at xs 0 ≡ own.a * 16777216 + (own.b * 65536 + (own.c * 256 + own.d))
  own_number = ap (λ (zs : List ℕ). long_at zs 0) own.is ∙ omega arith

  other_number : long_at ys 0
      ≡ others.a * 16777216 + (others.b * 65536 + (others.c * 256 + others.d))
  other_number = ap (λ (zs : List ℕ). long_at zs 0) others.is ∙ omega arith

  pub lower_first : long_at xs 0 < long_at ys 0 → slice_cmp nat_cmp xs ys ≡ Less
  lower_first lt =
      let m = own_number in let n = other_number in
      let e = lower own.a own.b own.c own.d others.a others.b others.c others.d own.rest others.rest own_four
      other_four (omega (arith, lt, m, n)) in
      ap (λ (zs : List ℕ). slice_cmp nat_cmp zs ys) own.is
      ∙ (ap (λ (zs : List ℕ). slice_cmp nat_cmp (own.a ∷ own.b ∷ own.c ∷ own.d ∷ own.rest) zs) others.is ∙ e)

  pub higher_first : long_at ys 0 < long_at xs 0 → slice_cmp nat_cmp xs ys ≡ Greater
  higher_first lt =
      let m = own_number in let n = other_number in
      let e = lower others.a others.b others.c others.d own.a own.b own.c own.d others.rest own.rest other_four
      own_four (omega (arith, lt, m, n)) in
      back xs ys
      (ap (λ (zs : List ℕ). slice_cmp nat_cmp zs xs) others.is
      ∙ (ap (λ (zs : List ℕ). slice_cmp nat_cmp (others.a ∷ others.b ∷ others.c ∷ others.d ∷ others.rest) zs) own.is
      ∙ e))

  pub alike_first : long_at xs 0 ≡ long_at ys 0
      → slice_cmp nat_cmp xs ys ≡ slice_cmp nat_cmp (drop 4 xs) (drop 4 ys)
  alike_first same =
      let m = own_number in let n = other_number in
      let e = alike own.a own.b own.c own.d others.a others.b others.c others.d own.rest others.rest own_four
      other_four (omega (arith, same, m, n)) in
      ap (λ (zs : List ℕ). slice_cmp nat_cmp zs ys) own.is
      ∙ (ap (λ (zs : List ℕ). slice_cmp nat_cmp (own.a ∷ own.b ∷ own.c ∷ own.d ∷ own.rest) zs) others.is
      ∙ (e
      ∙ (ap (λ (zs : List ℕ). slice_cmp nat_cmp (drop 4 zs) others.rest) (sym own.is)
      ∙ ap (λ (zs : List ℕ). slice_cmp nat_cmp (drop 4 xs) (drop 4 zs)) (sym others.is))))

  own_below : long_at xs 0 < 4294967296
  own_below =
      let m = own_number in
      let f = own_four.first in let g = own_four.second in let h = own_four.third in let k = own_four.fourth in
      omega (arith, m, f, g, h, k)

  other_below : long_at ys 0 < 4294967296
  other_below =
      let m = other_number in
      let f = other_four.first in let g = other_four.second in let h = other_four.third in
      let k = other_four.fourth in
      omega (arith, m, f, g, h, k)

-- the first eight octets as a number
abbrev eight_of : List ℕ → ℕ
eight_of xs = long_at xs 0 * 4294967296 + long_at xs 4

get_later : (k : ℕ) (xs : List ℕ) → ((i : ℕ) → get_or xs i 0 < 256) → (i : ℕ) → get_or (drop k xs) i 0 < 256
get_later zero xs each i = each i
get_later (suc k) [] each i = each i
get_later (suc k) (x ∷ xs) each i = get_later k xs (λ j. each (suc j)) i

later : (xs : List ℕ) → 4 ≤ length xs → long_at xs 4 ≡ long_at (drop 4 xs) 0
later xs long =
    let own = has_four xs long in
    ap (λ (zs : List ℕ). long_at zs 4) own.is ∙ ap (λ (zs : List ℕ). long_at (drop 4 zs) 0) (sym own.is)

module _ (xs ys : List ℕ) (own_octets : AllOctets xs) (other_octets : AllOctets ys)
    (long : 8 ≤ length xs) (other_long : 8 ≤ length ys) where
  own_four_long : 4 ≤ length xs
  own_four_long = omega (arith, long)

  other_four_long : 4 ≤ length ys
  other_four_long = omega (arith, other_long)

  own_rest_long : 4 ≤ length (drop 4 xs)
  own_rest_long = (let e = length-drop 4 xs in omega (arith, e, long))

  other_rest_long : 4 ≤ length (drop 4 ys)
  other_rest_long = (let e = length-drop 4 ys in omega (arith, e, other_long))

  own_rest_octets : (i : ℕ) → get_or (drop 4 xs) i 0 < 256
  own_rest_octets = get_later 4 xs own_octets

  other_rest_octets : (i : ℕ) → get_or (drop 4 ys) i 0 < 256
  other_rest_octets = get_later 4 ys other_octets

  own_low : long_at xs 4 < 4294967296
  own_low =
      let e = later xs own_four_long in
      let b = own_below (drop 4 xs) (drop 4 ys) own_rest_octets other_rest_octets own_rest_long other_rest_long in
      omega (arith, e, b)

  other_low : long_at ys 4 < 4294967296
  other_low =
      let e = later ys other_four_long in
      let b = other_below (drop 4 xs) (drop 4 ys) own_rest_octets other_rest_octets own_rest_long
      other_rest_long in
      omega (arith, e, b)

  pub lower_eight : eight_of xs < eight_of ys → slice_cmp nat_cmp xs ys ≡ Less
  lower_eight lt =
      let u = own_low in let v = other_low in
      let e = later xs own_four_long in let f = later ys other_four_long in
      elim (cases_order (long_at xs 0) (long_at ys 0)) [
        | inl same ↦ alike_first xs ys own_octets other_octets own_four_long other_four_long same
            ∙ lower_first (drop 4 xs) (drop 4 ys) own_rest_octets other_rest_octets own_rest_long other_rest_long
            (omega (arith, lt, same, e, f))
        | inr rest ↦ elim rest [
          | inl less ↦ lower_first xs ys own_octets other_octets own_four_long other_four_long less
          | inr more ↦ absurd (omega (arith, lt, more, u, v))
        ]
      ]

  pub higher_eight : eight_of ys < eight_of xs → slice_cmp nat_cmp xs ys ≡ Greater
  higher_eight lt =
      let u = own_low in let v = other_low in
      let e = later xs own_four_long in let f = later ys other_four_long in
      elim (cases_order (long_at xs 0) (long_at ys 0)) [
        | inl same ↦ alike_first xs ys own_octets other_octets own_four_long other_four_long same
            ∙ higher_first (drop 4 xs) (drop 4 ys) own_rest_octets other_rest_octets own_rest_long other_rest_long
            (omega (arith, lt, same, e, f))
        | inr rest ↦ elim rest [
          | inl less ↦ absurd (omega (arith, lt, less, u, v))
          | inr more ↦ higher_first xs ys own_octets other_octets own_four_long other_four_long more
        ]
      ]

  pub told_eight : (m n : ℕ) → m ≡ eight_of xs → n ≡ eight_of ys → m ≢ n
      → slice_cmp nat_cmp xs ys ≡ (if nat_lt m n then Less else Greater)
  told_eight m n is its differ =
      elim (cases_order m n) [
        | inl same ↦ absurd (differ same)
        | inr rest ↦ elim rest [
          | inl less ↦ lower_eight (omega (arith, less, is, its))
              ∙ ap (λ (b : Bool). if b then Less else Greater) (sym (lt_told m n less))
          | inr more ↦ higher_eight (omega (arith, more, is, its))
              ∙ ap (λ (b : Bool). if b then Less else Greater) (sym (not_lt_told m n more))
        ]
      ]
