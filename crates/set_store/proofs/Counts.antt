-- How many slots are in use.
use Rattle.std.proofs.Common.{◌≡◌, ℕ, zero, suc, ◌+◌, List, [], ◌∷◌, ◌++◌, cond, set, ap, arith, Some, inl, inr}
use Rattle.std.specs.Prelude.{slice_get}
use Rattle.std.proofs.lemmas.Bool.{eq-eqb}
use Rattle.std.proofs.lemmas.Bool.Decides.{eqb_tells}
use Rattle.set_store.specs.Packed.{Slot}
use Rattle.set_store.specs.Index.{IsLive, no_cell, used, used_by}

pub used_free : (slot : Slot) → slot.cell ≡ no_cell → used_by slot ≡ 0
used_free slot e = ap (λ b. cond b 0 1) (eq-eqb slot.cell no_cell e)

pub used_live : (slot : Slot) → IsLive slot → used_by slot ≡ 1
used_live slot live = elim (eqb_tells slot.cell no_cell) [
  | inl e ↦ absurd (live e.1)
  | inr e ↦ (ap (λ b. cond b 0 1) e.0)
]

same_use : (s slot : Slot) → Some s ≡ Some slot → used_by s ≡ used_by slot
same_use s slot e = let k : s ≡ slot = cc in ap used_by k

pub count_set : (slots : List Slot) (i : ℕ) (slot x : Slot) → slice_get slots i ≡ Some slot
    → used (set slots i x) + used_by slot ≡ used slots + used_by x
count_set [] i slot x at = absurd cc
count_set (s ∷ slots) zero slot x at = let e = same_use s slot at in omega (arith, e)
count_set (s ∷ slots) (suc i) slot x at = let r = count_set slots i slot x at in omega (arith, r)

pub count_more : (slots : List Slot) (x : Slot) → used_by x ≡ 0 → used (slots ++ x ∷ []) ≡ used slots
count_more [] x none = omega (arith, none)
count_more (s ∷ slots) x none = let r = count_more slots x none in omega (arith, r)
