-- An address is told by its number.
use Rattle.std.proofs.Common.{◌≡◌, ℕ, ◌+◌, ◌-◌, ◌*◌, ◌/◌, ◌%◌, ◌^◌, ◌<◌, List, ◌++◌, take, drop, get_or, refl, sym, ap, ◌∙◌, subst, inl, inr, arith, lit<, length-take, length-drop, get_or-take, get_or-drop}
use Rattle.std.specs.Int.{from_be_bytes, w32, w64, w128}
use Rattle.std.proofs.lemmas.Bool.{cases_lt}
use Rattle.std.proofs.lemmas.List.{take-append-drop, get_or_past}
use Rattle.std.proofs.lemmas.Nat.{be_bytes_4, be_bytes_8, same_from_place, shl-shr, shr_split}
use Rattle.address_text.specs.declared.address.IpAddress.{IpAddress}
use Rattle.address_text.specs.declared.address.IpAddress.TheVariants.{V4, V6}
use Rattle.ip_table.specs.Bits.{width_of, number_of, AreOctets, IsAddress}
use Rattle.ip_table.specs.Laws.{OnePrefix}
use Rattle.ip_table.specs.Prefixes.{Prefix}

same_4 : (x y : List ℕ) → AreOctets 4 x → AreOctets 4 y → from_be_bytes w32 x ≡ from_be_bytes w32 y
    → x ≡ y
same_4 x y a b e = sym (be_bytes_4 x (from_be_bytes w32 x) a.long a.each refl)
    ∙ be_bytes_4 y (from_be_bytes w32 x) b.long b.each e

same_8 : (x y : List ℕ) → AreOctets 8 x → AreOctets 8 y → from_be_bytes w64 x ≡ from_be_bytes w64 y
    → x ≡ y
same_8 x y a b e = sym (be_bytes_8 x (from_be_bytes w64 x) a.long a.each refl)
    ∙ be_bytes_8 y (from_be_bytes w64 x) b.long b.each e

below_64 : (x : List ℕ) → AreOctets 8 x → from_be_bytes w64 x < 2 ^ 64
below_64 x a =
    omega (arith, a.each 0, a.each 1, a.each 2, a.each 3, a.each 4, a.each 5, a.each 6, a.each 7)

-- sixteen octets as two times eight
in_halves : (x : List ℕ)
    → from_be_bytes w128 x ≡ from_be_bytes w64 (take 8 x) * 2 ^ 64 + from_be_bytes w64 (drop 8 x)
in_halves x =
    omega (
      arith,
      get_or-take 8 x 0 0 (omega arith),
      get_or-take 8 x 1 0 (omega arith),
      get_or-take 8 x 2 0 (omega arith),
      get_or-take 8 x 3 0 (omega arith),
      get_or-take 8 x 4 0 (omega arith),
      get_or-take 8 x 5 0 (omega arith),
      get_or-take 8 x 6 0 (omega arith),
      get_or-take 8 x 7 0 (omega arith),
      get_or-drop 8 x 0 0,
      get_or-drop 8 x 1 0,
      get_or-drop 8 x 2 0,
      get_or-drop 8 x 3 0,
      get_or-drop 8 x 4 0,
      get_or-drop 8 x 5 0,
      get_or-drop 8 x 6 0,
      get_or-drop 8 x 7 0,
    )

front : (x : List ℕ) → AreOctets 16 x → AreOctets 8 (take 8 x)
front x a = record { long = omega (arith, length-take 8 x, a.long); each = each }
  where
    each : (i : ℕ) → get_or (take 8 x) i 0 < 256
    each i = elim (cases_lt i 8) [
      | inl in_it ↦ subst (λ n. n < 256) (sym (get_or-take 8 x i 0 in_it)) (a.each i)
      | inr past ↦
          subst (λ n. n < 256)
          (sym (get_or_past (take 8 x) i 0 (omega (arith, length-take 8 x, a.long)))) (lit< tt)
    ]

back : (x : List ℕ) → AreOctets 16 x → AreOctets 8 (drop 8 x)
back x a =
    record {
      long = omega (arith, length-drop 8 x, a.long);
      each =
          λ i. subst (λ n. n < 256) (sym (get_or-drop 8 x i 0)) (a.each (8 + i));
    }

pub number_low : (a : IpAddress) → IsAddress a → number_of a < 2 ^ 128
unfolding number_of
number_low (V4 x) a = omega (arith, a.each 0, a.each 1, a.each 2, a.each 3)
number_low (V6 x) a =
    omega (arith, in_halves x, below_64 (take 8 x) (front x a), below_64 (drop 8 x) (back x a))

same_16 : (x y : List ℕ) → AreOctets 16 x → AreOctets 16 y
    → from_be_bytes w128 x ≡ from_be_bytes w128 y → x ≡ y
same_16 x y a b e =
    let parts =
    same_from_place (from_be_bytes w64 (take 8 x)) (from_be_bytes w64 (drop 8 x))
    (from_be_bytes w64 (take 8 y))
    (from_be_bytes w64 (drop 8 y)) (2 ^ 64)
    (below_64 (drop 8 x) (back x a)) (below_64 (drop 8 y) (back y b)) (sym (in_halves x) ∙ e
    ∙ in_halves y) in
    sym (take-append-drop 8 x)
    ∙ ap (λ h. h ++ drop 8 x) (same_8 (take 8 x) (take 8 y) (front x a) (front y b) parts.0)
    ∙ ap (λ t. take 8 y ++ t) (same_8 (drop 8 x) (drop 8 y) (back x a) (back y b) parts.1)
    ∙ take-append-drop 8 y

same_address : (a b : IpAddress) → IsAddress a → IsAddress b → width_of a ≡ width_of b
    → number_of a ≡ number_of b → a ≡ b
unfolding number_of
same_address (V4 x) (V4 y) s t w e =
    ap V4 (same_4 x y s t (sym (shl-shr (from_be_bytes w32 x) 96) ∙ ap (λ n. n / 2 ^ 96) e
    ∙ shl-shr (from_be_bytes w32 y) 96))
same_address (V4 x) (V6 y) s t w e = absurd (omega arith)
same_address (V6 x) (V4 y) s t w e = absurd (omega arith)
same_address (V6 x) (V6 y) s t w e = ap V6 (same_16 x y s t e)

-- a number that ends in zeros is told by what stands before them
same_number : (m n k : ℕ) → m / 2 ^ k ≡ n / 2 ^ k → m % 2 ^ k ≡ 0 → n % 2 ^ k ≡ 0 → m ≡ n
same_number m n k e z w =
    sym (shr_split m k) ∙ ap (λ q. q * 2 ^ k + m % 2 ^ k) e
    ∙ ap (λ r. n / 2 ^ k * 2 ^ k + r) (z ∙ sym w) ∙ shr_split n k

abbrev made : IpAddress → ℕ → Prefix
made x n = record { address = x; length = n }

pub one_prefix : OnePrefix
one_prefix p q a b level same =
    let z : number_of q.address % 2 ^ (128 - p.length) ≡ 0 =
    subst (λ n. number_of q.address % 2 ^ (128 - n) ≡ 0) (sym level) b.zeros in
    let e = same_address p.address q.address a.octets b.octets same.family
    (same_number (number_of p.address) (number_of q.address) (128 - p.length) same.bits a.zeros z)
    in
    ap (λ x. made x p.length) e ∙ ap (made q.address) level
