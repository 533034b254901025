use Rattle.std.proofs.Common.{◌≡◌, ◌<◌, ℕ, Bool, zero, suc, List, [], ◌∷◌, ◌++◌, length, get_or, arith, ◌⊎◌, inl, inr, refl}
use Rattle.std.specs.List.{Contains, AllByRecursion}
use Rattle.health_valves.specs.Valves.{count}

pub in_head : {X : Type 0} (y : X) (rest : List X) → Contains (y ∷ rest) y
in_head y rest = (0, omega arith, refl)

pub in_tail : {X : Type 0} (y x : X) (rest : List X) → Contains rest x → Contains (y ∷ rest) x
in_tail y x rest w = (suc w.0, omega arith, w.2)

pub in_none : {X : Type 0} (x : X) → Contains [] x → ⊥
in_none x w = omega arith

at_place : {X : Type 0} (y x : X) (rest : List X) (k : ℕ) → k < length (y ∷ rest) → get_or (y ∷ rest) k x ≡ x → (y ≡ x) ⊎ Contains rest x
at_place y x rest zero h e = inl e
at_place y x rest (suc k) h e = inr (k, omega arith, e)

pub in_cases : {X : Type 0} (y x : X) (rest : List X) → Contains (y ∷ rest) x → (y ≡ x) ⊎ Contains rest x
in_cases y x rest w = at_place y x rest w.0 w.1 w.2

pub in_right : {X : Type 0} (x : X) (a b : List X) → Contains b x → Contains (a ++ b) x
in_right x [] b w = w
in_right x (y ∷ a) b w = in_tail y x (a ++ b) (in_right x a b w)

pub all_weaker : (P Q : ℕ → Type 0) → ((i : ℕ) → P i → Q i) → (xs : List ℕ) → AllByRecursion P xs → AllByRecursion Q xs
all_weaker P Q h [] a = tt
all_weaker P Q h (x ∷ xs) a = (h x a.0, all_weaker P Q h xs a.1)

-- values that agree on a list are counted alike
pub count_same : (v w : ℕ → Bool) (xs : List ℕ) → AllByRecursion (λ x. v x ≡ w x) xs
    → count v xs ≡ count w xs
count_same v w [] a = refl
count_same v w (x ∷ xs) a = let e = a.0 in let r = count_same v w xs a.1 in cc
