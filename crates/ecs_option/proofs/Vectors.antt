-- Options as they stand in messages, read and written.
use Rattle.std.proofs.Common.{◌≡◌, ℕ, ◌<◌, ◌≤◌, List, [], ◌∷◌, replicate, Ok, Err, refl, subst, arith}
use Rattle.ecs_option.specs.declared.subnet.ClientSubnet.{ClientSubnet}
use Rattle.ecs_option.specs.declared.subnet.Malformed.{Malformed}
use Rattle.ecs_option.specs.Grammar.{Point, Length, Family, Source, Scope, Address, Meets, Reads, FitsSource, bit_at, bits_of}
use Rattle.ecs_option.specs.Writing.{option_of}

abbrev subnet : (family source : ℕ) → List ℕ → ClientSubnet
subnet family source address = record { family = family; source = source; address = address }

abbrev fault : ℕ → Malformed
fault place = record { 0 = place }

-- 198.51.100.0/24
slash_24 : Reads (0 ∷ 1 ∷ 24 ∷ 0 ∷ 0xc6 ∷ 0x33 ∷ 0x64 ∷ [])
    (Ok (subnet 1 24 (0xc6 ∷ 0x33 ∷ 0x64 ∷ replicate 13 0)))
slash_24 = (meets, refl)
  where
    meets : (point : Point) → Meets (0 ∷ 1 ∷ 24 ∷ 0 ∷ 0xc6 ∷ 0x33 ∷ 0x64 ∷ []) point
    meets Length = omega arith
    meets Family = omega arith
    meets Source = omega arith
    meets Scope = refl
    meets Address = record { octets = refl; padding = λ at h k. absurd (omega arith) }

-- 198.51.101.0/23: the bit behind the source length is set
bit_behind : Reads (0 ∷ 1 ∷ 23 ∷ 0 ∷ 0xc6 ∷ 0x33 ∷ 0x65 ∷ []) (Err (fault 4))
bit_behind = (Address, (omega arith, omega arith, omega arith, refl, unpadded), refl)
  where
    unpadded : FitsSource 23 (0xc6 ∷ 0x33 ∷ 0x65 ∷ []) → ⊥
    unpadded fits = absurd (omega (arith, fits.padding 23 (omega arith) (omega arith)))

-- the same source length with that bit 0: 198.51.100.0/23
bit_clear : FitsSource 23 (0xc6 ∷ 0x33 ∷ 0x64 ∷ [])
bit_clear = record { octets = refl; padding = clear }
  where
    clear : (at : ℕ) → 23 ≤ at → at < 24 → bit_at (0xc6 ∷ 0x33 ∷ 0x64 ∷ []) at ≡ 0
    clear at h k = let e : 23 ≡ at = omega arith in
        subst (λ n. bit_at (0xc6 ∷ 0x33 ∷ 0x64 ∷ []) n ≡ 0) e refl

-- one octet too many
octet_behind : Reads (0 ∷ 1 ∷ 24 ∷ 0 ∷ 0xc6 ∷ 0x33 ∷ 0x64 ∷ 0 ∷ []) (Err (fault 4))
octet_behind = (
  Address,
  (omega arith, omega arith, omega arith, refl, λ fits. let four : 4 ≡ 3 = fits.octets in cc),
  refl,
)

-- family 3; 33 bits of IPv4; a source length with family 0; a scope in a query; three octets
family_3 : Reads (0 ∷ 3 ∷ 0 ∷ 0 ∷ []) (Err (fault 0))
family_3 = (Family, (omega arith, λ low. absurd (omega arith)), refl)

bits_33 : Reads (0 ∷ 1 ∷ 33 ∷ 0 ∷ []) (Err (fault 2))
bits_33 = (Source, (omega arith, omega arith, λ low. absurd (omega arith)), refl)

no_family : Reads (0 ∷ 0 ∷ 1 ∷ 0 ∷ 0 ∷ []) (Err (fault 2))
no_family = (Source, (omega arith, omega arith, λ low. absurd (omega arith)), refl)

with_scope : Reads (0 ∷ 1 ∷ 0 ∷ 24 ∷ []) (Err (fault 3))
with_scope = (Scope, (omega arith, omega arith, omega arith, λ e. cc), refl)

three_octets : Reads (0 ∷ 1 ∷ 0 ∷ []) (Err (fault 3))
three_octets = (Length, λ long. absurd (omega arith), refl)

-- the source length 0, sent back as it came
sent_back : option_of (subnet 1 0 (replicate 16 0)) 0 ≡ 0x00 ∷ 0x08 ∷ 0x00 ∷ 0x04 ∷ 0x00 ∷ 0x01
    ∷ 0x00 ∷ 0x00 ∷ []
sent_back = refl

-- 198.51.100.0/24 with scope 17
scope_17 : option_of (subnet 1 24 (0xc6 ∷ 0x33 ∷ 0x64 ∷ replicate 13 0)) 17
    ≡ 0x00 ∷ 0x08 ∷ 0x00 ∷ 0x07 ∷ 0x00 ∷ 0x01 ∷ 0x18 ∷ 0x11 ∷ 0xc6 ∷ 0x33 ∷ 0x64 ∷ []
scope_17 = refl

-- the most bits of each family: 32 of IPv4; 128 of IPv6, and 129 are too many; none where no address is told
most_bits : bits_of 0 ∷ bits_of 1 ∷ bits_of 2 ∷ [] ≡ 0 ∷ 32 ∷ 128 ∷ []
most_bits = refl

all_of_ipv4 : Reads (0 ∷ 1 ∷ 32 ∷ 0 ∷ 192 ∷ 0 ∷ 2 ∷ 1 ∷ [])
    (Ok (subnet 1 32 (192 ∷ 0 ∷ 2 ∷ 1 ∷ replicate 12 0)))
all_of_ipv4 = (meets, refl)
  where
    meets : (point : Point) → Meets (0 ∷ 1 ∷ 32 ∷ 0 ∷ 192 ∷ 0 ∷ 2 ∷ 1 ∷ []) point
    meets Length = omega arith
    meets Family = omega arith
    meets Source = omega arith
    meets Scope = refl
    meets Address = record { octets = refl; padding = λ at h k. absurd (omega arith) }

bits_129 : Reads (0 ∷ 2 ∷ 129 ∷ 0 ∷ []) (Err (fault 2))
bits_129 = (Source, (omega arith, omega arith, λ low. absurd (omega arith)), refl)
