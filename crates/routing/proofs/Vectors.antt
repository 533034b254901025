-- The bytes at the ends of each range, those beside them, and names of locations.
use Rattle.std.specs.List.{list_all, AllByRecursion}
use Rattle.std.proofs.lemmas.Bool.{and_parts}
use Rattle.std.proofs.Common.{ℕ, List, Bool, ◌≡◌, ◌≤◌, arith, [], ◌∷◌, refl, map, true, false, inl, inr}
use Rattle.routing.specs.Texts.{is_printable, is_region_byte, is_subdivision_byte, is_location_byte, IsLocation}

-- 0x1F, space, `~`, 0x7F
pub printable : map is_printable (0x1F ∷ 0x20 ∷ 0x7E ∷ 0x7F ∷ []) ≡ false ∷ true ∷ true ∷ false ∷ []
printable = refl

-- `,` `-` `.` / `/` `0` `9` `:` / 0x60 `a` `z` `{` / `A` `_`
pub regions :
    map is_region_byte (0x2C ∷ 0x2D ∷ 0x2E ∷ 0x2F ∷ 0x30 ∷ 0x39 ∷ 0x3A ∷ 0x60 ∷ 0x61 ∷ 0x7A ∷ 0x7B
    ∷ 0x41 ∷ 0x5F ∷ [])
    ≡ false ∷ true ∷ false ∷ false ∷ true ∷ true ∷ false ∷ false ∷ true ∷ true ∷ false ∷ false
    ∷ false ∷ []
regions = refl

-- `/` `0` `9` `:` / `@` `A` `Z` `[` / `a` `-`
pub subdivisions :
    map is_subdivision_byte (0x2F ∷ 0x30 ∷ 0x39 ∷ 0x3A ∷ 0x40 ∷ 0x41 ∷ 0x5A ∷ 0x5B ∷ 0x61 ∷ 0x2D
    ∷ [])
    ≡ false ∷ true ∷ true ∷ false ∷ false ∷ true ∷ true ∷ false ∷ false ∷ false ∷ []
subdivisions = refl

-- `*` `,` `-` `.` / `/` `0` `9` `:` / `@` `A` `Z` `[` / `^` `_` 0x60 `a` `z` `{`
pub locations :
    map is_location_byte
    (0x2A ∷ 0x2C ∷ 0x2D ∷ 0x2E ∷ 0x2F ∷ 0x30 ∷ 0x39 ∷ 0x3A ∷ 0x40 ∷ 0x41 ∷ 0x5A ∷ 0x5B ∷ 0x5E ∷ 0x5F
    ∷ 0x60 ∷ 0x61 ∷ 0x7A ∷ 0x7B ∷ [])
    ≡ false ∷ false ∷ true ∷ false ∷ false ∷ true ∷ true ∷ false ∷ false ∷ true ∷ true ∷ false
    ∷ false ∷ true ∷ false ∷ true ∷ true ∷ false ∷ []
locations = refl

-- each byte is one of the alphabet's, where the test of all says so
all_plain : (test : ℕ → Bool) (text : List ℕ) → list_all test text ≡ true
    → AllByRecursion (λ b. test b ≡ true) text
all_plain test [] e = tt
all_plain test (b ∷ text) e = let p = and_parts (test b) (list_all test text) e in
    (p.0, all_plain test text p.1)

-- `office`, and `*`
abbrev office_name : List ℕ
office_name = 0x6F ∷ 0x66 ∷ 0x66 ∷ 0x69 ∷ 0x63 ∷ 0x65 ∷ []

pub office : IsLocation office_name
office = inl
    (record {
      filled = omega arith;
      short = omega arith;
      plain =
          all_plain is_location_byte office_name refl;
    })

pub star : IsLocation (0x2A ∷ [])
star = inr refl

-- `**`, and no byte at all
pub two_stars : IsLocation (0x2A ∷ 0x2A ∷ []) → ⊥
two_stars (inl is) = let first : false ≡ true = is.plain.0 in absurd cc
two_stars (inr e) = absurd cc

pub nothing : IsLocation [] → ⊥
nothing (inl is) = omega (arith, is.filled)
nothing (inr e) = absurd cc

-- 16 bytes `a`, and 17
abbrev sixteen : List ℕ
sixteen = 0x61 ∷ 0x61 ∷ 0x61 ∷ 0x61 ∷ 0x61 ∷ 0x61 ∷ 0x61 ∷ 0x61 ∷ 0x61 ∷ 0x61 ∷ 0x61 ∷ 0x61 ∷ 0x61
    ∷ 0x61 ∷ 0x61 ∷ 0x61 ∷ []

pub longest : IsLocation sixteen
longest =
    inl (record {
      filled = omega arith;
      short = omega arith;
      plain =
          all_plain is_location_byte sixteen refl;
    })

pub too_long : IsLocation (0x61 ∷ sixteen) → ⊥
too_long (inl is) = let h : 17 ≤ 16 = is.short in omega (arith, h)
too_long (inr e) = absurd cc
