-- The lines of a list, passed on one after another.
use Rattle.std.proofs.Common.{◌≡◌, ℕ, zero, suc, ◌+◌, ◌<◌, ◌≤◌, List, [], ◌∷◌, ◌++◌, length, drop, get_or, Option, Some, ap, subst, arith, refl}
use Rattle.std.specs.List.{AllByRecursion, flat_map}
use Rattle.std.specs.Prelude.{slice_get}
use Rattle.std.proofs.lemmas.Option.{slice_get_read}
use Rattle.set_sending.proofs.Passed.{first_next}
use Rattle.set_sending.specs.Passing.{IsPassed}
use Rattle.config_zones.proofs.MembersOfZoneList.{left_at, nothing_left}

-- what stands at a place, by a read of it
pub item_at : {X : Type 0} (xs : List X) (i : ℕ) (x : X) → i < length xs → x ≡ get_or xs i x
    → slice_get xs i ≡ Some x
item_at xs i x lt is = slice_get_read xs (length xs) i x refl lt is

-- what holds of all holds of the one at a place
pub all_at : {X : Type 0} (P : X → Type 0) (xs : List X) (i : ℕ) (x : X) → AllByRecursion P xs
    → slice_get xs i ≡ Some x → P x
all_at P [] i x all at = absurd (grind (arith, at))
all_at P (y ∷ xs) zero x all at = let same : y ≡ x = grind (arith, at) in subst P same all.0
all_at P (y ∷ xs) (suc i) x all at = all_at P xs i x all.1 at

module _ {X : Type 0} (line : X → List ℕ) (held : List ℕ) (sink : Option (List ℕ)) (buffer : List ℕ)
    (xs : List X) (i : ℕ) (rest text : List ℕ)
    (passed : IsPassed held sink buffer (flat_map line (drop i xs) ++ rest) text) where
  -- the line at a place is the next one
  pub next_line : (x : X) → slice_get xs i ≡ Some x
      → IsPassed held sink buffer (line x ++ (flat_map line (drop (i + 1) xs) ++ rest)) text
  next_line x at =
      first_next held sink buffer (flat_map line (drop i xs)) (line x)
      (flat_map line (drop (i + 1) xs)) rest text (ap (flat_map line) (left_at xs i x at)) passed

  -- behind the last one the rest is next
  pub all_lines : length xs ≤ i → IsPassed held sink buffer rest text
  all_lines past =
      subst (λ (ys : List X). IsPassed held sink buffer (flat_map line ys ++ rest) text)
      (nothing_left xs i past) passed
