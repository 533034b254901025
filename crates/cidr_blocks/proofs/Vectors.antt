-- The definitions at values from outside.
use Rattle.std.proofs.Common.{◌≡◌, ℕ, zero, suc, true, false, [], ◌∷◌, List, length, replicate, refl, inr, arith}
use Rattle.std.specs.List.{AllByRecursion}
use Rattle.std.specs.List.Sorted.{IsStrictlySortedBy}
use Rattle.std.specs.Prelude.{codes}
use Rattle.std.specs.declared.cmp.Ordering.TheVariants.{Less, Equal, Greater}
use Rattle.ip_table.specs.IpAddressRecord.TheVariants.{V4, V6}
use Rattle.ip_table.specs.Prefixes.{Prefix}
use Rattle.routing.specs.Texts.{IsLocation, IsLocationName, is_location_byte}
use Rattle.cidr_blocks.specs.declared.places.CidrLocation.{CidrLocation}
use Rattle.cidr_blocks.specs.declared.places.Collection.{Collection}
use Rattle.cidr_blocks.specs.Idents.{IsCollectionName, IsNameOrStar, star}
use Rattle.cidr_blocks.specs.Places.{IsCidrLocation, IsCollection, StandOnce, block_cmp, is_block, name_cmp, names_of, rows_of}

star_text : codes "*" ≡ star
star_text = refl

-- `*` is what a set names that applies to each client
star_location : IsLocation (codes "*")
star_location = inr refl

star_name : IsNameOrStar (codes "*")
star_name = inr refl

-- as many letters a
abbrev letters : ℕ → List ℕ
letters n = replicate n 0x61

are_plain : (n : ℕ) → AllByRecursion (λ b. is_location_byte b ≡ true) (letters n)
are_plain zero = tt
are_plain (suc n) = (refl, are_plain n)

-- the most bytes of a name: 16 of a location, 64 of a collection
location_16 : IsLocationName (letters 16)
location_16 = record { filled = omega arith; short = omega arith; plain = are_plain 16 }

location_17 : IsLocationName (letters 17) → ⊥
location_17 name = let short = name.short in absurd (omega (arith, short))

collection_64 : IsCollectionName (letters 64)
collection_64 = record { filled = omega arith; short = omega arith; plain = are_plain 64 }

collection_65 : IsCollectionName (letters 65) → ⊥
collection_65 name = let short = name.short in absurd (omega (arith, short))

abbrev v4 : (a b c d length : ℕ) → Prefix
v4 a b c d length = record { address = V4 (a ∷ b ∷ c ∷ d ∷ []); length = length }

-- 2001:db8::, with so many bits
abbrev v6 : (length : ℕ) → Prefix
v6 length = record {
  address = V6 (0x20 ∷ 0x01 ∷ 0x0D ∷ 0xB8 ∷ 0 ∷ 0 ∷ 0 ∷ 0 ∷ 0 ∷ 0 ∷ 0 ∷ 0 ∷ 0 ∷ 0 ∷ 0 ∷ 0 ∷ []);
  length = length;
}

-- the lengths of blocks
v4_none : is_block (v4 0 0 0 0 0) ≡ false
v4_none = refl

v4_least : is_block (v4 128 0 0 0 1) ≡ true
v4_least = refl

v4_most : is_block (v4 198 51 100 0 24) ≡ true
v4_most = refl

v4_more : is_block (v4 198 51 100 0 25) ≡ false
v4_more = refl

v6_none : is_block (v6 0) ≡ false
v6_none = refl

v6_least : is_block (v6 1) ≡ true
v6_least = refl

v6_most : is_block (v6 48) ≡ true
v6_most = refl

v6_more : is_block (v6 49) ≡ false
v6_more = refl

-- IPv4 first, then by address, then by length
family_first : block_cmp (v4 198 51 100 0 24) (v6 32) ≡ Less
family_first = refl

address_next : block_cmp (v4 198 51 100 0 24) (v4 198 51 7 0 24) ≡ Greater
address_next = refl

length_last : block_cmp (v4 198 51 0 0 16) (v4 198 51 0 0 24) ≡ Less
length_last = refl

one_block : block_cmp (v4 198 51 100 0 24) (v4 198 51 100 0 24) ≡ Equal
one_block = refl

abbrev lab : CidrLocation
lab = record { name = codes "lab"; blocks = v4 198 51 0 0 16 ∷ [] }

abbrev office : CidrLocation
office = record { name = codes "office"; blocks = v4 198 51 100 0 24 ∷ v6 32 ∷ [] }

rows_by_location : rows_of (lab ∷ office ∷ [])
    ≡ (v4 198 51 0 0 16, codes "lab") ∷ (v4 198 51 100 0 24, codes "office")
    ∷ (v6 32, codes "office") ∷ []
rows_by_location = refl

-- the most blocks of a collection that meets the other rules
a_thousand : (c : Collection) → IsCollectionName c.name → AllByRecursion IsCidrLocation c.locations
    → IsStrictlySortedBy name_cmp (names_of c.locations) → StandOnce (rows_of c.locations)
    → length (rows_of c.locations) ≡ 1000 → IsCollection c
a_thousand c name each rising once count = record {
  name = name;
  each = each;
  rising = rising;
  once = once;
  few = omega (arith, count);
}

a_thousand_one : (c : Collection) → length (rows_of c.locations) ≡ 1001 → IsCollection c → ⊥
a_thousand_one c count is = let few = is.few in absurd (omega (arith, count, few))
