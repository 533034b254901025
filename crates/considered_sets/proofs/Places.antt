-- The places of the considered sets.
use Rattle.std.proofs.Common.{◌≡◌, ◌<◌, ◌+◌, ℕ, suc, Bool, true, false, not, ◌||◌, List, [], ◌∷◌, length, map, arith, refl, ap, ◌∙◌, if◌then◌else◌}
use Rattle.considered_sets.specs.Considered.{places, some_healthy, places_from}

-- the flags as they are walked
pub flags : (s : Bool) (hs : List Bool)
    → map (λ h. h || not s) hs ≡ (if s then hs else map (λ h. true) hs)
flags true [] = refl
flags true (true ∷ hs) = ap (λ l. true ∷ l) (flags true hs)
flags true (false ∷ hs) = ap (λ l. false ∷ l) (flags true hs)
flags false [] = refl
flags false (true ∷ hs) = ap (λ l. true ∷ l) (flags false hs)
flags false (false ∷ hs) = ap (λ l. true ∷ l) (flags false hs)

-- a healthy set has a place
some_place : (at : ℕ) (hs : List Bool) → some_healthy hs ≡ true → 0 < length (places_from at hs)
some_place at [] e = absurd (let no : ⊥ = cc in no)
some_place at (true ∷ hs) e = omega arith
some_place at (false ∷ hs) e = some_place (at + 1) hs e

-- each of all sets has
all_places : (at : ℕ) (hs : List Bool) → length (places_from at (map (λ h. true) hs)) ≡ length hs
all_places at [] = refl
all_places at (h ∷ hs) = ap suc (all_places (at + 1) hs)

-- some set is considered
pub some_considered : (hs : List Bool) → 0 < length hs → 0 < length (places hs)
some_considered hs some = go (some_healthy hs) refl where
  go : (s : Bool) → some_healthy hs ≡ s
      → 0 < length (places_from 0 (if s then hs else map (λ h. true) hs))
  go true e = some_place 0 hs e
  go false e = omega (arith, all_places 0 hs)

-- the places of the sets as they are walked
pub noted_is : (s : Bool) (hs : List Bool) → s ≡ some_healthy hs
    → places_from 0 (map (λ h. h || not s) hs) ≡ places hs
noted_is s hs is =
    ap (places_from 0) (flags s hs ∙ ap (λ b. if b then hs else map (λ h. true) hs) is)
