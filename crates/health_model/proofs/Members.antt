-- Elements of lists, and tests that agree on them.
use Rattle.std.proofs.Common.{◌≡◌, zero, suc, Bool, true, false, cond, List, [], ◌∷◌, map, ap, ◌∙◌, refl, arith, inl, inr, ◌⊎◌}
use Rattle.std.specs.Prelude.{Contains, ◌||◌}
use Rattle.std.specs.List.{filter, list_any}
use Rattle.check_model.proofs.Members.{further}
use Rattle.zone_model.specs.Zones.{IsAmong}

module _ {X : Type 0} where
  pub at_first : (x : X) (xs : List X) → Contains (x ∷ xs) x
  at_first x xs = (zero, omega arith, refl)

  pub nothing_in : (x : X) → Contains [] x → ⊥
  nothing_in x m = let lt = m.1 in omega (arith, lt)

  pub first_or_rest : (y : X) (ys : List X) (x : X) → Contains (y ∷ ys) x
      → (y ≡ x) ⊎ Contains ys x
  first_or_rest y ys x (zero, lt, is) = inl is
  first_or_rest y ys x (suc k, lt, is) = inr (k, omega (arith, lt), is)

  pub member_of : (xs : List X) (x : X) → Contains xs x → IsAmong xs x
  member_of [] x m = let lt = m.1 in absurd (omega (arith, lt))
  member_of (y ∷ ys) x (zero, lt, is) = inl is
  member_of (y ∷ ys) x (suc k, lt, is) = inr (member_of ys x (k, omega (arith, lt), is))

  pub of_member : (xs : List X) (x : X) → IsAmong xs x → Contains xs x
  of_member [] x m = absurd m
  of_member (y ∷ ys) x (inl is) = (zero, omega arith, is)
  of_member (y ∷ ys) x (inr m) = further y ys x (of_member ys x m)

  kept_by : (p : X → Bool) (b : Bool) (y : X) (ys : List X) (x : X) → p y ≡ b
      → (IsAmong (filter p ys) x → IsAmong ys x)
      → IsAmong (cond b (y ∷ filter p ys) (filter p ys)) x → IsAmong (y ∷ ys) x
  kept_by p true y ys x e rest (inl is) = inl is
  kept_by p true y ys x e rest (inr m) = inr (rest m)
  kept_by p false y ys x e rest m = inr (rest m)

  pub of_filter : (p : X → Bool) (xs : List X) (x : X) → IsAmong (filter p xs) x → IsAmong xs x
  of_filter p [] x m = m
  of_filter p (y ∷ ys) x m = kept_by p (p y) y ys x refl (of_filter p ys x) m

module _ {X : Type 0} (p q : X → Bool) where
  pub any_same : (xs : List X) → ((x : X) → IsAmong xs x → p x ≡ q x)
      → list_any p xs ≡ list_any q xs
  any_same [] same = refl
  any_same (x ∷ xs) same =
      ap (λ (b : Bool). b || list_any p xs) (same x (inl refl))
      ∙ ap (λ (b : Bool). q x || b) (any_same xs (λ y m. same y (inr m)))

  filter_by : (b : Bool) (x : X) (xs ys : List X) → xs ≡ ys
      → cond b (x ∷ xs) xs ≡ cond b (x ∷ ys) ys
  filter_by b x xs ys e = ap (λ (l : List X). cond b (x ∷ l) l) e

  pub filter_same : (xs : List X) → ((x : X) → IsAmong xs x → p x ≡ q x)
      → filter p xs ≡ filter q xs
  filter_same [] same = refl
  filter_same (x ∷ xs) same =
      ap (λ (b : Bool). cond b (x ∷ filter p xs) (filter p xs)) (same x (inl refl))
      ∙ filter_by (q x) x (filter p xs) (filter q xs)
      (filter_same xs (λ y m. same y (inr m)))

module _ {X Y : Type 0} (f : X → Y) where
  pub mapped_in : (xs : List X) (x : X) → IsAmong xs x → Contains (map f xs) (f x)
  mapped_in [] x m = absurd m
  mapped_in (y ∷ ys) x (inl is) = (zero, omega arith, ap f is)
  mapped_in (y ∷ ys) x (inr m) = further (f y) (map f ys) (f x) (mapped_in ys x m)
