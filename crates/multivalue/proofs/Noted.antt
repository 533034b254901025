-- One more set is noted.
use Rattle.std.proofs.Common.{◌≡◌, ◌<◌, ◌≤◌, ◌+◌, ◌||◌, ℕ, Bool, true, false, cond, List, [], ◌∷◌, ◌++◌, length, map, get_or, set, take, drop, arith, refl, ap, ◌∙◌, append_assoc, if◌then◌else◌}
use Rattle.std.proofs.lemmas.List.{at_drop_more, at_drop_all, take_more_set, take-set}
use Rattle.considered_sets.specs.Considered.{places_from}

-- a truth value as a number
pub at_most_one : (b : Bool) (n : ℕ) → n ≡ cond b 1 0 → n ≤ 1
at_most_one true n e = omega arith
at_most_one false n e = omega arith

-- the places of the sets from one on
abbrev pub rest : Bool → List Bool → ℕ → List ℕ
rest all hs i = places_from i (map (λ h. h || all) (drop i hs))

module _ (all : Bool) (hs : List Bool) (i : ℕ) where
  -- the places are noted to the end
  pub noted_end : length hs ≤ i → rest all hs i ≡ []
  noted_end past = at_drop_all (λ l. places_from i (map (λ h. h || all) l)) hs i past

  pub noted_more : (into : List ℕ) (count b : ℕ) → i < length hs → count < length into
      → b ≡ cond (get_or hs i false || all) 1 0
      → take (count + b) (set into count i) ++ rest all hs (i + 1) ≡ take count into
      ++ rest all hs i
  noted_more into count b lt room is = go (get_or hs i false || all) refl where
    step : rest all hs i
        ≡ (if get_or hs i false || all then i ∷ rest all hs (i + 1) else rest all hs (i + 1))
    step = at_drop_more (λ l. places_from i (map (λ h. h || all) l)) hs i false lt

    go : (v : Bool) → get_or hs i false || all ≡ v
        → take (count + b) (set into count i) ++ rest all hs (i + 1) ≡ take count into
        ++ rest all hs i
    go true e =
        let one : count + b ≡ count + 1 = omega (arith, is ∙ ap (λ v. cond v 1 0) e) in
        let now : rest all hs i ≡ i ∷ rest all hs (i + 1) = step
        ∙ ap (λ v. if v then i ∷ rest all hs (i + 1) else rest all hs (i + 1)) e in
        rw (one, take_more_set into count i room, now) (append_assoc (take count into) (i ∷ []) _)
    go false e =
        let none : count + b ≡ count = omega (arith, is ∙ ap (λ v. cond v 1 0) e) in
        let now : rest all hs i ≡ rest all hs (i + 1) = step
        ∙ ap (λ v. if v then i ∷ rest all hs (i + 1) else rest all hs (i + 1)) e in
        rw (none, take-set into count i, now) refl
