-- A set of a zone gives way to another with its key.
use Rattle.std.proofs.Common.{◌≡◌, ◌≢◌, ℕ, zero, suc, List, [], ◌∷◌, set, map, ap, ◌∙◌, sym, refl}
use Rattle.std.proofs.Common.{Option, Some, subst, Less, inl, inr}
use Rattle.std.specs.Prelude.{slice_get, unwrap_or}
use Rattle.std.specs.List.{AllByRecursion}
use Rattle.std.proofs.lemmas.List.{map-set}
use Rattle.set_store.specs.RecordSetRecord.{RecordSet}
use Rattle.set_store.specs.SetKeyRecord.{SetKey}
use Rattle.set_store.specs.SetsOfRecordSet.{key_of}
use Rattle.set_store.specs.Keys.{key_cmp}
use Rattle.set_store.specs.Zones.{IsAmong, IsRising}
use Rattle.set_store.specs.Found.{FindsAt}
use Rattle.set_store.specs.Index.{no_set}
use Rattle.set_store.proofs.Lists.{same_or_not, set_agree}
use Rattle.set_store.proofs.Among.{among_at}
use Rattle.set_store.specs.Slotted.{Slotted, sets_of}
use Rattle.set_store.proofs.ListsOfZoneModel.{all_found}
use Rattle.zone_order.specs.Orders.{AreDistinct, HasSet, IsOrderBy, slotted_at, slotted_by}
use Rattle.zone_order.proofs.Orders.{Updates}

-- an element replaced by itself
set_itself : {X : Type 0} (xs : List X) (i : ℕ) (x : X) → slice_get xs i ≡ Some x → set xs i x ≡ xs
set_itself [] i x at = absurd cc
set_itself (y ∷ xs) zero x at = let e : y ≡ x = cc in ap (λ z. z ∷ xs) (sym e)
set_itself (y ∷ xs) (suc i) x at = ap (λ ys. y ∷ ys) (set_itself xs i x at)

-- an element stands at one place alone
apart_at : (xs : List ℕ) → AreDistinct xs → (i j k x : ℕ) → slice_get xs i ≡ Some k
    → slice_get xs j ≡ Some x → j ≢ i
    → x ≢ k
apart_at [] distinct i j k x at_i at_j apart e = absurd cc
apart_at (y ∷ xs) distinct zero zero k x at_i at_j apart e = apart refl
apart_at (y ∷ xs) distinct zero (suc j) k x at_i at_j apart e =
    let same : y ≡ k = cc in
    all_found (λ z. y ≢ z) xs j x distinct.0 at_j (same ∙ sym e)
apart_at (y ∷ xs) distinct (suc i) zero k x at_i at_j apart e =
    let same : y ≡ x = cc in
    all_found (λ z. y ≢ z) xs i k distinct.0 at_i (same ∙ e)
apart_at (y ∷ xs) distinct (suc i) (suc j) k x at_i at_j apart e =
    apart_at xs distinct.1 i j k x at_i at_j (λ f. apart (ap suc f)) e

-- sets stay in order
later_stay : (key : SetKey) (sets : List RecordSet) (i : ℕ) (was it : RecordSet) → slice_get sets i ≡ Some was
    → key_of it ≡ key_of was → AllByRecursion (λ later. key_cmp key (key_of later) ≡ Less) sets
    → AllByRecursion (λ later. key_cmp key (key_of later) ≡ Less) (set sets i it)
later_stay key [] i was it at same all = absurd cc
later_stay key (x ∷ sets) zero was it at same all =
    let e : x ≡ was = cc in
    (subst (λ k. key_cmp key k ≡ Less) (ap key_of e ∙ sym same) all.0, all.1)
later_stay key (x ∷ sets) (suc i) was it at same all = (all.0, later_stay key sets i was it at same all.1)

rising_stay : (sets : List RecordSet) (i : ℕ) (was it : RecordSet) → slice_get sets i ≡ Some was
    → key_of it ≡ key_of was → IsRising sets → IsRising (set sets i it)
rising_stay [] i was it at same rising = absurd cc
rising_stay (x ∷ sets) zero was it at same rising =
    let e : x ≡ was = cc in (
      subst (λ k. AllByRecursion (λ later. key_cmp k (key_of later) ≡ Less) sets) (ap key_of e
          ∙ sym same) rising.0,
      rising.1,
    )
rising_stay (x ∷ sets) (suc i) was it at same rising =
    (later_stay (key_of x) sets i was it at same rising.0, rising_stay sets i was it at same rising.1)

module _ (get now : ℕ → Option RecordSet) (order : List ℕ) (n k : ℕ) (it : RecordSet)
    (h : IsOrderBy get order)
    (at_n : slice_get order n ≡ Some k) (updates : Updates get now k (Some it))
    (found : FindsAt (sets_of (slotted_by get order)) (key_of it) n) where
  abbrev new : Slotted
  new = record { slot = k; set = it }

  pub replaced : slotted_by now order ≡ set (slotted_by get order) n new
  replaced =
      let here : slotted_at now k ≡ new =
      ap (λ (found : Option RecordSet). record { slot = k; set = unwrap_or found no_set }) updates.changed in
      ap (map (slotted_at now)) (sym (set_itself order n k at_n)) ∙ map-set (slotted_at now) order n k
      ∙ ap (λ v. set (slotted_by now order) n v) here
      ∙ set_agree (slotted_at now) (slotted_at get) order n new
      (λ j x apart at. ap (λ (found : Option RecordSet). record { slot = x; set = unwrap_or found no_set })
      (updates.others x (apart_at order h.distinct n j k x at_n at apart)))

  still_there : (os : List ℕ) → AllByRecursion (λ j. HasSet get j) os → AllByRecursion (λ j. HasSet now j) os
  still_there [] there = tt
  still_there (j ∷ os) there = (has j there.0, still_there os there.1)
    where
      has : (j : ℕ) → HasSet get j → HasSet now j
      has j is = elim (same_or_not j k) [
        | inl e ↦ (it, ap now e ∙ updates.changed)
        | inr ne ↦ (is.0, updates.others j ne ∙ is.1)
      ]

  only : (j : ℕ) (x : RecordSet) → now j ≡ Some x → IsAmong order j
  only j x at = elim (same_or_not j k) [
    | inl e ↦ (among_at order n j (at_n ∙ ap Some (sym e)))
    | inr ne ↦ (h.only j x (sym (updates.others j ne) ∙ at))
  ]

  pub replaced_order : IsOrderBy now order
  replaced_order = record {
    present = still_there order h.present;
    only = only;
    distinct = h.distinct;
    few = h.few;
    rising = subst IsRising (sym (ap sets_of replaced ∙ map-set (λ (p : Slotted). p.set)
        (slotted_by get order) n new))
        (rising_stay (sets_of (slotted_by get order)) n found.kept it found.there
        (sym found.same_key) h.rising);
  }
