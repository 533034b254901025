-- What holds of no element so far, and in the end of none.
use Rattle.std.proofs.Common.{◌≡◌, ◌≢◌, ℕ, zero, suc, ◌+◌, ◌<◌, ◌≤◌, List, [], ◌∷◌, length, Some, ap, sym}
use Rattle.std.proofs.Common.{refl, subst, arith, inl, inr}
use Rattle.std.specs.Prelude.{slice_get, ◌⊎◌}
use Rattle.std.proofs.lemmas.Option.{slice_get_within}
use Rattle.zone_table.proofs.Among.{place_of}
use Rattle.zone_table.specs.Sets.{IsAmong}

-- a number below the next one is below this one, or it
pub last_or : (j i : ℕ) → j < i + 1 → (j < i) ⊎ (j ≡ i)
last_or zero zero lt = inr refl
last_or zero (suc i) lt = inl (omega arith)
last_or (suc j) zero lt = absurd (omega (arith, lt))
last_or (suc j) (suc i) lt = elim (last_or j i (omega (arith, lt))) [
  | inl less ↦ inl (omega (arith, less))
  | inr e ↦ inr (ap suc e)
]

module _ {X : Type 0} (P : X → Type 0) (xs : List X) where
  -- none from a place on, of so many
  abbrev pub NoneFrom : (start n : ℕ) → Type 0
  NoneFrom start n = (j : ℕ) (x : X) → j < n → slice_get xs (start + j) ≡ Some x → P x → ⊥

  pub one_more_from : (start i : ℕ) (x : X) → slice_get xs (start + i) ≡ Some x → (P x → ⊥)
      → NoneFrom start i → NoneFrom start (i + 1)
  one_more_from start i x at not before j y lt at_y has = elim (last_or j i lt) [
    | inl less ↦ before j y less at_y has
    | inr e ↦
        (let same : x ≡ y = grind (arith, at, at_y, e) in
        not (subst P (sym same) has))
  ]

  abbrev pub NoneUpTo : (n : ℕ) → Type 0
  NoneUpTo n = (j : ℕ) (x : X) → j < n → slice_get xs j ≡ Some x → P x → ⊥

  pub one_more : (i : ℕ) (x : X) → slice_get xs i ≡ Some x → (P x → ⊥) → NoneUpTo i
      → NoneUpTo (i + 1)
  one_more i x at not before j y lt at_y has = elim (last_or j i lt) [
    | inl less ↦ before j y less at_y has
    | inr e ↦
        (let same : x ≡ y = grind (arith, at, at_y, e) in
        not (subst P (sym same) has))
  ]

  pub none_at_all : (n : ℕ) → length xs ≤ n → NoneUpTo n → (x : X) → IsAmong xs x → P x → ⊥
  none_at_all n all before x there has =
      let at = place_of xs x there in
      let within = slice_get_within xs at.0 x at.1 in
      before at.0 x (omega (arith, within, all)) at.1 has

module _ {X : Type 0} (P : X → Type 0) (xs : List X) where
  -- each of the first so many
  abbrev pub AllUpTo : (n : ℕ) → Type 0
  AllUpTo n = (j : ℕ) (x : X) → j < n → slice_get xs j ≡ Some x → P x

  pub one_more_has : (i : ℕ) (x : X) → slice_get xs i ≡ Some x → P x → AllUpTo i → AllUpTo (i + 1)
  one_more_has i x at has before j y lt at_y = elim (last_or j i lt) [
    | inl less ↦ before j y less at_y
    | inr e ↦
        (let same : x ≡ y = grind (arith, at, at_y, e) in
        subst P same has)
  ]

  pub all_have : (n : ℕ) → length xs ≤ n → AllUpTo n → (x : X) → IsAmong xs x → P x
  all_have n all before x there =
      let at = place_of xs x there in
      let within = slice_get_within xs at.0 x at.1 in
      before at.0 x (omega (arith, within, all)) at.1

-- a list of which it can't be that it isn't empty
pub empty_so : {X : Type 0} (xs : List X) → (xs ≢ [] → ⊥) → xs ≡ []
empty_so [] not = refl
empty_so (x ∷ xs) not = absurd (not (λ e. grind (arith, e)))
