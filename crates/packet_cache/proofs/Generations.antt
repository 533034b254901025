-- What is kept where a generation begins, and where a place is taken.
use Rattle.std.proofs.Common.{◌≡◌, ◌≤◌, ◌+◌, ◌⊎◌, ℕ, zero, suc, List, [], ◌∷◌, replicate, Some, inl, inr, refl, arith}
use Rattle.std.specs.Prelude.{slice_set}
use Rattle.packet_cache.specs.Kept.{Kept, Keeps, KeepsNothing, KeepsNoMoreBut}
use Rattle.packet_cache.specs.Places.{AreOfThePast, free, kept_at, kept_in, told}
use Rattle.packet_cache.specs.declared.places.Place.{Place}

-- In a later generation than that of a place nothing is kept there.
later : (generation : ℕ) (place : Place) (kept : Kept) → place.generation ≤ generation
    → kept_in (generation + 1) place ≡ Some kept → ⊥
later generation place kept below e = grind (arith, below, e)

-- In a later generation than that of all places nothing is kept.
pub nothing_yet : (generation : ℕ) (places : List Place) → AreOfThePast generation places
    → KeepsNothing (kept_at (generation + 1) places)
nothing_yet generation [] past kept keeps = absurd (grind (arith, keeps.1))
nothing_yet generation (place ∷ places) past kept (zero, e) =
    later generation place kept (past 0 place refl) (grind (arith, e))
nothing_yet generation (place ∷ places) past kept (suc i, e) =
    nothing_yet generation places (λ j. past (suc j)) kept (i, e)

pub free_ones : (n : ℕ) → AreOfThePast 0 (replicate n free)
free_ones zero i place is = absurd (grind (arith, is))
free_ones (suc n) zero place is = grind (arith, is)
free_ones (suc n) (suc i) place is = free_ones n i place is

-- what a place of the generation keeps
own : (generation : ℕ) (place : Place) (kept : Kept) → place.generation ≡ generation
    → kept_in generation place ≡ Some kept → kept ≡ told place
own generation place kept same e = grind (arith, same, e)

pub put : (generation : ℕ) (places : List Place) (at : ℕ) (place : Place) → place.generation ≡ generation
    → KeepsNoMoreBut (told place) (kept_at generation places) (kept_at generation (slice_set places at place))
put generation [] at place same kept keeps = inl keeps
put generation (first ∷ places) zero place same kept (zero, e) = inr (own generation place kept same (grind (arith, e)))
put generation (first ∷ places) zero place same kept (suc i, e) = inl (suc i, e)
put generation (first ∷ places) (suc at) place same kept (zero, e) = inl (zero, e)
put generation (first ∷ places) (suc at) place same kept (suc i, e) =
    on (put generation places at place same kept (i, e))
  where
    on : Keeps (kept_at generation places) kept ⊎ (kept ≡ told place)
        → Keeps (kept_at generation (first ∷ places)) kept ⊎ (kept ≡ told place)
    on (inl there) = inl (suc there.0, there.1)
    on (inr is) = inr is

pub past_still : (generation : ℕ) (places : List Place) (at : ℕ) (place : Place) → place.generation ≡ generation
    → AreOfThePast generation places → AreOfThePast generation (slice_set places at place)
past_still generation [] at place same past i other is = past i other is
past_still generation (first ∷ places) zero place same past zero other is = grind (arith, same, is)
past_still generation (first ∷ places) zero place same past (suc i) other is = past (suc i) other is
past_still generation (first ∷ places) (suc at) place same past zero other is = past zero other is
past_still generation (first ∷ places) (suc at) place same past (suc i) other is =
    past_still generation places at place same (λ j. past (suc j)) i other is
