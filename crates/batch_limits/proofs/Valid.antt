-- Changes of which each is allowed by itself.
use Rattle.std.proofs.Common.{◌≡◌, ◌≢◌, ℕ, ◌+◌, ◌<◌, List, [], length, zero, suc, inl, inr, ap, refl, Some, subst, arith}
use Rattle.std.specs.Prelude.{◌⊎◌, None, slice_get}
use Rattle.std.proofs.lemmas.Option.{slice_get_within}
use Rattle.batch_model.specs.Reasons.{IsFirst}
use Rattle.batch_model.specs.declared.batches.Change.{Change}
use Rattle.batch_model.specs.Batches.{AreValidBefore, IsValid}

pub all_valid : (changes : List Change) (apex : List (List ℕ)) → changes ≢ []
    → AreValidBefore changes apex (length changes) → IsValid changes apex
all_valid changes apex filled each =
    record {
      filled = filled;
      each =
          λ i change at. each i change (slice_get_within changes i change at) at;
    }

up_to : (j k : ℕ) → j < k + 1 → (j < k) ⊎ (k ≡ j)
up_to zero zero le = inr refl
up_to zero (suc k) le = inl (omega arith)
up_to (suc j) zero le = absurd (omega (arith, le))
up_to (suc j) (suc k) le = elim (up_to j k (omega (arith, le))) [
  | inl lt ↦ inl (omega (arith, lt))
  | inr e ↦ inr (ap suc e)
]

-- one valid change more
pub valid_more : (changes : List Change) (apex : List (List ℕ)) (i : ℕ) (change : Change)
    → AreValidBefore changes apex i → slice_get changes i ≡ Some change
    → IsFirst None change.set apex → AreValidBefore changes apex (i + 1)
valid_more changes apex i change valid at_i new j other lt at_j = by (up_to j i lt)
  where
    by : (j < i) ⊎ (i ≡ j) → IsFirst None other.set apex
    by (inl less) = valid j other less at_j
    by (inr e) =
        let here : slice_get changes j ≡ Some change =
        subst (λ n. slice_get changes n ≡ Some change) e at_i in
        let same : change ≡ other = grind (arith, here, at_j) in
        subst (λ (c : Change). IsFirst None c.set apex) same new
