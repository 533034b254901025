-- Edits of lists.
use Rattle.std.proofs.Common.{◌≡◌, ℕ, zero, suc, ◌<◌, List, [], ◌∷◌, ◌++◌, length, take, drop, set, ap, refl, arith}

-- an element put in the place of another
pub replaced : {X : Type 0} (xs : List X) (n : ℕ) (x : X) → n < length xs
    → set xs n x ≡ take n xs ++ x ∷ drop (suc n) xs
replaced [] n x lt = absurd (omega (arith, lt))
replaced (y ∷ xs) zero x lt = refl
replaced (y ∷ xs) (suc n) x lt = ap (λ ys. y ∷ ys) (replaced xs n x (omega (arith, lt)))
