-- Tests of each element.
use Rattle.std.proofs.Common.{◌≡◌, Bool, true, false, List, [], ◌∷◌, refl, cond, None, Some}
use Rattle.std.specs.List.{list_all, AllByRecursion}
use Rattle.std.proofs.lemmas.Bool.{and_parts, and_from}

pub all_from : {X : Type 0} (test : X → Bool) (xs : List X) → list_all test xs ≡ true
    → AllByRecursion (λ x. test x ≡ true) xs
all_from test [] h = tt
all_from test (x ∷ xs) h = let p = and_parts (test x) (list_all test xs) h in
    (p.0, all_from test xs p.1)

pub all_to : {X : Type 0} (test : X → Bool) (xs : List X) → AllByRecursion (λ x. test x ≡ true) xs
    → list_all test xs ≡ true
all_to test [] h = refl
all_to test (x ∷ xs) h = and_from (test x) (list_all test xs) h.0 (all_to test xs h.1)

-- what a test let through
pub chosen_some : {A : Type 0} (b : Bool) (x y : A) → cond b (Some x) None ≡ Some y
    → (b ≡ true) × (x ≡ y)
chosen_some true x y e = (refl, cc)
chosen_some false x y e = absurd cc

pub refused_some : {A : Type 0} (b : Bool) (x y : A) → cond b None (Some x) ≡ Some y
    → (b ≡ false) × (x ≡ y)
refused_some true x y e = absurd cc
refused_some false x y e = (refl, cc)
