-- Lists that are looked through one after another for a first element that is asked.
use Rattle.std.proofs.Common.{◌≡◌, ◌||◌, ℕ, Bool, true, false, List, [], ◌∷◌, ◌++◌, get_or, slice_get, Some, None, refl, sym, ap, ◌∙◌}
use Rattle.std.proofs.lemmas.List.Elements.{filter-append}
use Rattle.considered_sets.specs.Healthy.{healthy_of, asked}

here : (xs ys : List ℕ) (set : ℕ) → Some set ≡ slice_get xs 0 → Some set ≡ slice_get (xs ++ ys) 0
here [] ys set e = absurd (let no : ⊥ = cc in no)
here (x ∷ xs) ys set e = e

beyond : (xs ys : List ℕ) → None ≡ slice_get xs 0 → slice_get ys 0 ≡ slice_get (xs ++ ys) 0
beyond [] ys e = refl
beyond (x ∷ xs) ys e = absurd (let no : ⊥ = cc in no)

module _ (all : Bool) (healthy : List Bool) (xs ys : List ℕ) where
  split : asked all healthy (xs ++ ys) ≡ asked all healthy xs ++ asked all healthy ys
  split = filter-append (λ set. all || get_or healthy set false) xs ys

  -- one of the first list is asked
  pub first : (set : ℕ) → Some set ≡ slice_get (asked all healthy xs) 0
      → Some set ≡ slice_get (asked all healthy (xs ++ ys)) 0
  first set e = here _ _ set e ∙ ap (λ l. slice_get l 0) (sym split)

  -- none of the first list is asked
  pub later : None ≡ slice_get (asked all healthy xs) 0
      → slice_get (asked all healthy ys) 0 ≡ slice_get (asked all healthy (xs ++ ys)) 0
  later none = beyond _ _ none ∙ ap (λ l. slice_get l 0) (sym split)

-- all sets are asked
pub all_asked : (healthy : List Bool) (sets : List ℕ) → asked true healthy sets ≡ sets
all_asked healthy [] = refl
all_asked healthy (set ∷ sets) = ap (λ l. set ∷ l) (all_asked healthy sets)

-- the healthy ones, and then all
module _ (healthy : List Bool) (sets : List ℕ) where
  pub healthy_one : (set : ℕ) → Some set ≡ slice_get (asked false healthy sets) 0
      → Some set ≡ slice_get (healthy_of healthy sets ++ sets) 0
  healthy_one set e = here (healthy_of healthy sets) sets set e

  pub any_one : None ≡ slice_get (asked false healthy sets) 0
      → slice_get (asked true healthy sets) 0 ≡ slice_get (healthy_of healthy sets ++ sets) 0
  any_one none = ap (λ l. slice_get l 0) (all_asked healthy sets)
      ∙ beyond (healthy_of healthy sets) sets none
