-- Elements of a list, and their places.
use Rattle.std.proofs.Common.{◌≡◌, ℕ, zero, suc, List, [], ◌∷◌, ap, Some, arith, inl, inr}
use Rattle.std.specs.Prelude.{slice_get}
use Rattle.zone_model.specs.Zones.{IsAmong}

module _ {X : Type 0} where
  -- what stands at a place is among them
  pub among_at : (xs : List X) (i : ℕ) (x : X) → slice_get xs i ≡ Some x → IsAmong xs x
  among_at [] i x e = absurd (grind (arith, e))
  among_at (y ∷ xs) zero x e = inl (grind (arith, e))
  among_at (y ∷ xs) (suc i) x e = inr (among_at xs i x e)

  -- what is among them stands at a place
  pub place_of : (xs : List X) (x : X) → IsAmong xs x → (i : ℕ) × (slice_get xs i ≡ Some x)
  place_of [] x there = absurd there
  place_of (y ∷ xs) x (inl e) = (zero, ap Some e)
  place_of (y ∷ xs) x (inr there) = let rest = place_of xs x there in (suc rest.0, rest.1)
