-- Numbers of 128 bits, by their first bits.
use Rattle.std.proofs.Common.{◌≡◌, ℕ, zero, suc, cond, not, min, nat_eq, bit_and, ◌+◌, ◌-◌, ◌*◌, ◌/◌, ◌%◌, ◌^◌, ◌<◌, ◌≤◌, ◌↔◌, sym, ap, ◌∙◌, subst, inl, inr, arith, bit_xor}
use Rattle.std.specs.Int.{bit_at}
use Rattle.std.proofs.lemmas.Nat.{xor_shr, xor_lt, leading_length, shr-shr, shl-shr, shr_split, mod_below, pow_pos, div_below, pow-add}
use Rattle.std.proofs.lemmas.Bool.{cases_lt}
use Rattle.std.proofs.lemmas.Bool.Decides.{nat_tests}
use Rattle.std.proofs.lemmas.Nat.Bits.{and_pow, bit_at-lt}
use Rattle.std.proofs.Math.Nat.{pow-le-pow_right, mul_assoc, mul-add-div_right, add_left_cancel}
use lib.Bits.{xor_assoc, xor_self, xor_zero_r, xor_zero_l}
use lib.Count.{count_leading_zeros}
use Rattle.address_text.specs.declared.address.IpAddress.{IpAddress}
use Rattle.ip_table.specs.Bits.{number_of, first_bits, SharesFirst}
use Rattle.ip_table.specs.Trees.{bit_behind, window}

same_from_xor : (a b : ℕ) → bit_xor a b ≡ 0 → a ≡ b
same_from_xor a b e =
    sym (xor_zero_r a) ∙ ap (bit_xor a) (sym (xor_self b)) ∙ sym (xor_assoc a b b)
    ∙ ap (λ z. bit_xor z b) e ∙ xor_zero_l b

-- what is shifted out
gone : (x k : ℕ) → x < 2 ^ k → x / 2 ^ k ≡ 0
gone x k h = omega (arith, div_below x (2 ^ k) 1 (pow_pos k) (omega arith))

below : (x k : ℕ) → x / 2 ^ k ≡ 0 → x < 2 ^ k
below x k e =
    let split : 0 * 2 ^ k + x % 2 ^ k ≡ x =
    subst (λ q. q * 2 ^ k + x % 2 ^ k ≡ x) e (shr_split x k) in
    omega (arith, mod_below x (2 ^ k) (pow_pos k))

common_to : (w a b n : ℕ) → a < 2 ^ w → b < 2 ^ w → n ≤ w → n ≤ count_leading_zeros w (bit_xor a b)
    → a / 2 ^ (w - n) ≡ b / 2 ^ (w - n)
common_to w a b n fa fb low h =
    let l = leading_length w (bit_xor a b) (xor_lt w a b fa fb) in
    let short : l.0 ≤ w - n = omega (arith, l.1) in
    let within : 2 ^ l.0 ≤ 2 ^ (w - n) = pow-le-pow_right {n = 2} (omega arith) short in
    same_from_xor _ _ (sym (xor_shr a b (w - n)) ∙ gone _ _ (omega (arith, l.2)))

common_from : (w a b n : ℕ) → a < 2 ^ w → b < 2 ^ w → n ≤ w → a / 2 ^ (w - n) ≡ b / 2 ^ (w - n)
    → n ≤ count_leading_zeros w (bit_xor a b)
common_from w a b n fa fb low e =
    let l = leading_length w (bit_xor a b) (xor_lt w a b fa fb) in
    let k = w - n in
    let small : bit_xor a b < 2 ^ k =
    below _ _ (xor_shr a b k ∙ ap (λ z. bit_xor z (b / 2 ^ k)) e ∙ xor_self (b / 2 ^ k)) in
    elim (cases_lt (count_leading_zeros w (bit_xor a b)) n) [
      | inl long ↦ absurd
          (let above : 2 ^ (k + 1) ≤ 2 ^ l.0 =
          pow-le-pow_right {n = 2} (omega arith) (omega (arith, l.1)) in
          omega (arith, l.3, pow-add 2 k 1))
      | inr short ↦ short
    ]

-- the first bits that two numbers of w bits have in common
pub common : (w a b n : ℕ) → a < 2 ^ w → b < 2 ^ w → n ≤ w
    → (n ≤ count_leading_zeros w (bit_xor a b)) ↔ (a / 2 ^ (w - n) ≡ b / 2 ^ (w - n))
common w a b n fa fb low = (common_to w a b n fa fb low, common_from w a b n fa fb low)

-- the first bits of an address are those of the next length without the last
pub halves : (n : ℕ) (a : IpAddress) → n < 128 → first_bits n a ≡ first_bits (n + 1) a / 2
halves n a low =
    let e : 128 - (n + 1) + 1 ≡ 128 - n = omega arith in
    sym (shr-shr (number_of a) (128 - (n + 1)) 1 ∙ ap (λ k. number_of a / 2 ^ k) e)

pub one_more : (n : ℕ) (a : IpAddress) → n < 128
    → first_bits (n + 1) a ≡ 2 * first_bits n a + bit_behind n a
one_more n a low = omega (arith, halves n a low)

pub fewer : (m n : ℕ) (a b : IpAddress) → m ≤ n → first_bits n a ≡ first_bits n b
    → first_bits m a ≡ first_bits m b
fewer m n a b h e =
    let k = 128 - m - (128 - n) in
    let whole : 128 - n + k ≡ 128 - m = omega arith in
    sym (shr-shr (number_of a) (128 - n) k ∙ ap (λ j. number_of a / 2 ^ j) whole)
    ∙ ap (λ x. x / 2 ^ k) e
    ∙ shr-shr (number_of b) (128 - n) k ∙ ap (λ j. number_of b / 2 ^ j) whole

pub shares_fewer : (m n : ℕ) (a b : IpAddress) → m ≤ n → SharesFirst n a b → SharesFirst m a b
shares_fewer m n a b h s = record { family = s.family; bits = fewer m n a b h s.bits }

pub shares_back : (n : ℕ) (a b : IpAddress) → SharesFirst n a b → SharesFirst n b a
shares_back n a b s = record { family = sym s.family; bits = sym s.bits }

pub shares_on : (n : ℕ) (a b c : IpAddress) → SharesFirst n a b → SharesFirst n b c
    → SharesFirst n a c
shares_on n a b c s t = record { family = s.family ∙ t.family; bits = s.bits ∙ t.bits }

-- the first bits are the first d and then some of the 32 behind those
in_window : (d m : ℕ) (a : IpAddress) → d ≤ 96 → m ≤ 32
    → first_bits (d + m) a ≡ first_bits d a * 2 ^ m + window d a / 2 ^ (32 - m)
in_window d m a low few =
    let x = number_of a / 2 ^ (96 - d) in
    let k = 32 - m in
    let whole : m + k ≡ 32 = omega arith in
    let powers : 2 ^ m * 2 ^ k ≡ 2 ^ 32 = sym (pow-add 2 m k) ∙ ap (λ j. 2 ^ j) whole in
    let to : 96 - d + k ≡ 128 - (d + m) = omega arith in
    let all : 96 - d + 32 ≡ 128 - d = omega arith in
    let up : first_bits (d + m) a ≡ x / 2 ^ k =
    sym (shr-shr (number_of a) (96 - d) k ∙ ap (λ j. number_of a / 2 ^ j) to) in
    let front : x / 2 ^ 32 ≡ first_bits d a = shr-shr (number_of a) (96 - d) 32
    ∙ ap (λ j. number_of a / 2 ^ j) all in
    let parts : x ≡ x / 2 ^ 32 * 2 ^ m * 2 ^ k + x % 2 ^ 32 =
    sym (ap (λ q. q + x % 2 ^ 32) (mul_assoc (x / 2 ^ 32) (2 ^ m) (2 ^ k)
    ∙ ap (λ p. x / 2 ^ 32 * p) powers) ∙ shr_split x 32) in
    up ∙ ap (λ y. y / 2 ^ k) parts
    ∙ mul-add-div_right {m = 2 ^ k} (pow_pos k) (x / 2 ^ 32 * 2 ^ m) (x % 2 ^ 32)
    ∙ ap (λ q. q * 2 ^ m + window d a / 2 ^ k) front

-- two addresses that share the first d bits and the 32 behind those
pub same_windows : (d n : ℕ) (a b : IpAddress) → d ≤ 96 → first_bits d a ≡ first_bits d b
    → window d a ≡ window d b → n ≤ d + 32
    → first_bits n a ≡ first_bits n b
same_windows d n a b low same e h =
    fewer n (d + 32) a b h
    (in_window d 32 a low (omega arith) ∙ ap (λ q. q * 2 ^ 32 + window d a / 2 ^ (32 - 32)) same
    ∙ ap (λ w. first_bits d b * 2 ^ 32 + w / 2 ^ (32 - 32)) e
    ∙ sym (in_window d 32 b low (omega arith)))

-- no bits
pub no_bits : (a b : IpAddress) → number_of a < 2 ^ 128 → number_of b < 2 ^ 128
    → first_bits 0 a ≡ first_bits 0 b
no_bits a b x y = gone (number_of a) 128 x ∙ sym (gone (number_of b) 128 y)

-- two addresses that share the first d bits, by what they share of the 32 behind those
module _ (d : ℕ) (a b : IpAddress) (low : d ≤ 96) (same : first_bits d a
    ≡ first_bits d b)
    (r : ℕ) (is : (m : ℕ) → m ≤ 32
    → (d + m ≤ r ↔ (window d a / 2 ^ (32 - m) ≡ window d b / 2 ^ (32 - m)))) where
  none : window d a / 2 ^ 32 ≡ window d b / 2 ^ 32
  none = gone (window d a) 32 (mod_below _ (2 ^ 32) (pow_pos 32))
      ∙ sym (gone (window d b) 32 (mod_below _ (2 ^ 32) (pow_pos 32)))

  at_least : d ≤ r
  at_least = omega (arith, (is 0 (omega arith)).1 none)

  inside : (m : ℕ) → m ≤ 32 → (d + m ≤ r ↔ (first_bits (d + m) a ≡ first_bits (d + m) b))
  inside m few = (
    λ h. in_window d m a low few ∙ ap (λ q. q * 2 ^ m + window d a / 2 ^ (32 - m)) same
        ∙ ap (λ w. first_bits d b * 2 ^ m + w) ((is m few).0 h)
        ∙ sym (in_window d m b low few),
    λ e. (is m few).1 (add_left_cancel (first_bits d b * 2 ^ m)
        (sym (in_window d m a low few ∙ ap (λ q. q * 2 ^ m + window d a / 2 ^ (32 - m)) same) ∙ e
        ∙ in_window d m b low few)),
  )

  pub shared_within : (n : ℕ) → n ≤ d + 32 → (n ≤ r ↔ (first_bits n a ≡ first_bits n b))
  shared_within n top = elim (cases_lt n d) [
    | inl few ↦ (λ h. fewer n d a b (omega arith) same, λ e. omega (arith, at_least))
    | inr from ↦
        let at : d + (n - d) ≡ n = omega arith in
        subst (λ k. k ≤ r ↔ (first_bits k a ≡ first_bits k b)) at (inside (n - d) (omega arith))
  ]

  -- they differ in the 32
  module _ (differ : window d a ≡ window d b → ⊥) where
    beyond : (n : ℕ) → d + 32 ≤ n → first_bits n a ≡ first_bits n b → ⊥
    beyond n h e =
        let long : 128 - (d + 32) ≡ 96 - d = omega arith in
        differ (ap (λ x. x % 2 ^ 32)
        (subst (λ k. number_of a / 2 ^ k ≡ number_of b / 2 ^ k) long (fewer (d + 32) n a b h e)))

    at_most : d + 32 ≤ r → ⊥
    at_most h = differ (omega (arith, (is 32 (omega arith)).0 h))

    pub shared_windows : (n : ℕ) → n ≤ 128 → (n ≤ r ↔ (first_bits n a ≡ first_bits n b))
    shared_windows n top = elim (cases_lt n (d + 32)) [
      | inl to ↦ shared_within n (omega arith)
      | inr over ↦ (λ h. absurd (at_most (omega arith)), λ e. absurd (beyond n over e))
    ]

-- the highest of 128 bits, moved down
top_bit : (m : ℕ) → m ≤ 127 → 2 ^ 127 / 2 ^ m ≡ 2 ^ (127 - m)
top_bit m low =
    let whole : 127 - m + m ≡ 127 = omega arith in
    subst (λ k. 2 ^ k / 2 ^ m ≡ 2 ^ (127 - m)) whole (ap (λ x. x / 2 ^ m) (pow-add 2 (127 - m) m)
    ∙ shl-shr (2 ^ (127 - m)) m)

flag : (b p : ℕ) → b < 2 → 0 < p → cond (not (nat_eq (b * p) 0)) 1 0 ≡ b
flag zero p low some = let none : 0 * p ≡ 0 = omega arith in
    ap (λ x. cond (not (nat_eq x 0)) 1 0) none
flag (suc zero) p low some = grind (arith, nat_tests)
flag (suc (suc b)) p low some = absurd (omega arith)

-- a mask of one bit tells the bit behind the first ones
pub masked : (a : IpAddress) (d m : ℕ) → m ≡ min d 127
    → cond (not (nat_eq (bit_and (number_of a) (2 ^ 127 / 2 ^ m)) 0)) 1 0 ≡ bit_behind d a
masked a d m is =
    let k = 127 - m in
    let place : k ≡ 128 - (d + 1) = omega (arith, is) in
    ap (λ x. cond (not (nat_eq (bit_and (number_of a) x) 0)) 1 0) (top_bit m (omega (arith, is)))
    ∙ ap (λ x. cond (not (nat_eq x 0)) 1 0) (and_pow (number_of a) k)
    ∙ flag (bit_at (number_of a) k) (2 ^ k) (bit_at-lt (number_of a) k) (pow_pos k)
    ∙ ap (λ j. number_of a / 2 ^ j % 2) place

-- the bit behind the first ones, read in the first half of the number
pub bit_of_half : (a : IpAddress) (d : ℕ) → d < 64
    → number_of a / 2 ^ 64 / 2 ^ (63 - d) % 2 ≡ bit_behind d a
bit_of_half a d low =
    let place : 64 + (63 - d) ≡ 128 - (d + 1) = omega (arith, low) in
    ap (λ x. x % 2) (shr-shr (number_of a) 64 (63 - d) ∙ ap (λ j. number_of a / 2 ^ j) place)

-- the 32 bits behind the first ones, read in the first half of the number
pub window_of_half : (a : IpAddress) (d : ℕ) → d ≤ 32
    → number_of a / 2 ^ 64 / 2 ^ (32 - d) % 2 ^ 32 ≡ window d a
window_of_half a d low =
    let place : 64 + (32 - d) ≡ 96 - d = omega (arith, low) in
    ap (λ x. x % 2 ^ 32) (shr-shr (number_of a) 64 (32 - d) ∙ ap (λ j. number_of a / 2 ^ j) place)
