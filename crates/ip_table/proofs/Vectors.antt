-- Addresses, prefixes and rows from outside.
use Rattle.std.proofs.Common.{◌≡◌, ℕ, ◌<◌, ◌≤◌, List, [], ◌∷◌, get_or, Some, refl, sym, subst, inl, inr, arith, zero, suc, lit<, lit≤}
use Rattle.std.specs.Prelude.{Contains}
use Rattle.std.proofs.lemmas.Bool.{cases_lt}
use Rattle.address_text.specs.declared.address.IpAddress.{IpAddress}
use Rattle.address_text.specs.declared.address.IpAddress.TheVariants.{V4, V6}
use Rattle.ip_table.specs.Bits.{number_of, first_bits, SharesFirst}
use Rattle.ip_table.specs.Location.{IsFound, IsScope, HasLongerInside}
use Rattle.ip_table.specs.Prefixes.{Prefix, IsPrefix, Covers}

-- 198.51.100.7
abbrev client : IpAddress
client = V4 (198 ∷ 51 ∷ 100 ∷ 7 ∷ [])

-- 198.51.0.0, 198.51.200.0 and 2001:db8::
abbrev net_51 : IpAddress
net_51 = V4 (198 ∷ 51 ∷ 0 ∷ 0 ∷ [])

abbrev net_200 : IpAddress
net_200 = V4 (198 ∷ 51 ∷ 200 ∷ 0 ∷ [])

abbrev net_db8 : IpAddress
net_db8 = V6 (0x20 ∷ 0x01 ∷ 0x0d ∷ 0xb8 ∷ 0 ∷ 0 ∷ 0 ∷ 0 ∷ 0 ∷ 0 ∷ 0 ∷ 0 ∷ 0 ∷ 0 ∷ 0 ∷ 0 ∷ [])

all_bits : number_of client ≡ 0xc6336407000000000000000000000000
unfolding number_of
all_bits = refl

first_24 : first_bits 24 client ≡ 0xc63364
unfolding number_of
first_24 = refl

first_17 : first_bits 17 client ≡ 0x18c66
unfolding number_of
first_17 = refl

first_17_of_200 : first_bits 17 net_200 ≡ 0x18c67
unfolding number_of
first_17_of_200 = refl

first_32_of_db8 : first_bits 32 net_db8 ≡ 0x20010db8
unfolding number_of
first_32_of_db8 = refl

-- a prefix, and one with a later bit set: 198.51.200.0 has 21 bits
prefix_21 : IsPrefix net_200 21
unfolding number_of
prefix_21 = record { octets = record { long = refl; each = each }; within = lit≤ tt; zeros = refl }
  where
    each : (i : ℕ) → get_or (198 ∷ 51 ∷ 200 ∷ 0 ∷ []) i 0 < 256
    each zero = lit< tt
    each (suc zero) = lit< tt
    each (suc (suc zero)) = lit< tt
    each (suc (suc (suc i))) = last i
      where
        last : (k : ℕ) → get_or (0 ∷ []) k 0 < 256
        last zero = lit< tt
        last (suc k) = lit< tt

host_bit : IsPrefix net_200 20 → ⊥
unfolding number_of
host_bit p = absurd (omega (arith, p.zeros))

-- an IPv4 address is in no prefix of IPv6, not even in the one of no bits
other_family : Covers record { address = net_db8; length = 0 } client → ⊥
other_family c = absurd (omega (arith, c.family))

abbrev row_51 : Prefix × ℕ
row_51 = (record { address = net_51; length = 16 }, 1)

abbrev row_200 : Prefix × ℕ
row_200 = (record { address = net_200; length = 24 }, 2)

abbrev rows : List (Prefix × ℕ)
rows = row_51 ∷ row_200 ∷ []

shares_16 : SharesFirst 16 net_51 client
unfolding number_of
shares_16 = record { family = refl; bits = refl }

shares_16_with_200 : SharesFirst 16 net_200 client
unfolding number_of
shares_16_with_200 = record { family = refl; bits = refl }

apart_at_17 : SharesFirst 17 net_200 client → ⊥
unfolding number_of
apart_at_17 s = absurd (omega (arith, s.bits))

apart_at_24 : SharesFirst 24 net_200 client → ⊥
unfolding number_of
apart_at_24 s = absurd (omega (arith, s.bits))

-- a row is one of the two
which : (P : Prefix × ℕ → Type 0) → P row_51 → P row_200 → (row : Prefix × ℕ) → Contains rows row
    → P row
which P first second row c = at c.0 c.1 c.2
  where
    at : (k : ℕ) → k < 2 → get_or rows k row ≡ row → P row
    at zero h e = subst P e first
    at (suc zero) h e = subst P e second
    at (suc (suc k)) h e = absurd (omega arith)

-- 198.51.0.0/16 and 198.51.200.0/24: the client is in the first, and the answer holds for its first
-- 17 bits
found_16 : IsFound rows client (Some row_51)
found_16 = (
  (0, omega arith, refl),
  shares_16,
  which (λ row. Covers row.0 client → row.0.length ≤ 16) (λ c. omega arith)
      (λ c. absurd (apart_at_24 c)),
)

scope_17 : IsScope rows client (Some row_51) 17
scope_17 = record {
  from = lit≤ tt;
  apart = λ inside. which (λ row. 16 < row.0.length → SharesFirst 17 row.0.address client
      → ⊥) (λ longer s. omega arith) (λ longer s. apart_at_17 s)
      inside.0 inside.1 inside.2 inside.3.1;
  least = λ n low none. elim (cases_lt n 17) [
    | inl under ↦
        let at : 16 ≡ n = omega arith in
        absurd (subst (λ m. HasLongerInside rows (Some row_51) m client → ⊥) (sym at) none
        (row_200, (1, omega arith, refl), omega arith, (omega arith, shares_16_with_200)))
    | inr over ↦ over
  ];
}
