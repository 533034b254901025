-- Elements of lists, one by one.
use Rattle.std.proofs.Common.{◌≡◌, ◌⊎◌, zero, suc, List, [], ◌∷◌, inl, inr, refl, subst, arith}
use Rattle.std.specs.Prelude.{Contains}
use Rattle.std.specs.List.{AllByRecursion}

-- an element of a list is the first one or stands behind it
module _ {X : Type 0} where
  pub first : (x : X) (xs : List X) → Contains (x ∷ xs) x
  first x xs = (zero, omega arith, refl)

  pub later : (x y : X) (xs : List X) → Contains xs y → Contains (x ∷ xs) y
  later x y xs (k, lt, is) = (suc k, omega (arith, lt), is)

  pub which : (x y : X) (xs : List X) → Contains (x ∷ xs) y → (x ≡ y) ⊎ Contains xs y
  which x y xs (zero, lt, is) = inl is
  which x y xs (suc k, lt, is) = inr (k, omega (arith, lt), is)

  pub none : (y : X) → Contains [] y → ⊥
  none y (k, lt, is) = absurd (omega (arith, lt))

-- what holds of all holds of each
pub at_each : {X : Type 0} (P : X → Type 0) (xs : List X) (y : X) → AllByRecursion P xs
    → Contains xs y → P y
at_each P [] y all c = absurd (none y c)
at_each P (x ∷ xs) y all c = go (at_each P xs y all.1) (which x y xs c)
  where
    go : (Contains xs y → P y) → (x ≡ y) ⊎ Contains xs y → P y
    go rest (inl e) = subst P e all.0
    go rest (inr d) = rest d
