-- The slots of a zone's sets stay in its order, where a set comes or goes.
use Rattle.std.proofs.Common.{◌≡◌, ◌≢◌, ℕ, suc, ◌<◌, ◌^◌, List, [], ◌∷◌, ◌++◌, length, take, drop}
use Rattle.std.proofs.Common.{map, ap, ◌∙◌, sym, refl, Option, None, Some, subst, arith, inl, inr}
use Rattle.std.specs.Prelude.{◌⊎◌, slice_get, option_map, unwrap_or}
use Rattle.std.specs.List.{AllByRecursion, insert, remove}
use Rattle.std.proofs.lemmas.List.{map-append, length-map}
use Rattle.std.proofs.lemmas.Bool.{cases_eq}
use Rattle.std.proofs.lemmas.Option.{slice_get-map}
use Rattle.set_store.specs.RecordSetRecord.{RecordSet}
use Rattle.set_store.specs.SetsOfRecordSet.{key_of}
use Rattle.set_store.specs.Laws.{PlacedRise}
use Rattle.set_store.specs.Zones.{IsAmong, IsRising}
use Rattle.set_store.specs.Found.{FindsNone}
use Rattle.set_store.specs.Index.{no_set}
use Rattle.set_store.specs.Slotted.{Slotted, IsHere, sets_of, HaveOwnSlots, AreOfZone, IsPut, IsTakenAt}
use Rattle.zone_order.proofs.Rising.{put_rises, rising_taken}
use Rattle.set_store.proofs.ListsOfZoneModel.{all_put, all_taken, all_found, split, split_at, map_insert, map_remove}
use Rattle.set_store.proofs.ListsOfZoneModel.{in_put, in_itself, in_taken}
use Rattle.zone_order.specs.Orders.{AreDistinct, HasSet, IsOrderBy, slotted_at, slotted_by}
use Rattle.zone_order.proofs.Distinct.{apart, distinct_put, distinct_taken}

abbrev Get : Type 0
Get = ℕ → Option RecordSet

-- one slot changes
pub record Updates (get now : Get) (k : ℕ) (v : Option RecordSet) : Type 0 where
  pub changed : now k ≡ v
  pub others : (j : ℕ) → j ≢ k → now j ≡ get j

module _ (get now : Get) (k : ℕ) (v : Option RecordSet) (updates : Updates get now k v) where
  pub same_map : (order : List ℕ) → AllByRecursion (λ j. k ≢ j) order
      → slotted_by now order ≡ slotted_by get order
  same_map [] apart_from = refl
  same_map (j ∷ order) apart_from =
      let here : slotted_at now j ≡ slotted_at get j =
      ap (λ (found : Option RecordSet). record { slot = j; set = unwrap_or found no_set })
      (updates.others j (λ e. apart_from.0 (sym e))) in
      ap (λ p. p ∷ slotted_by now order) here
      ∙ ap (λ ps. slotted_at get j ∷ ps) (same_map order apart_from.1)

  still_there : (order : List ℕ) → AllByRecursion (λ j. k ≢ j) order
      → AllByRecursion (λ j. HasSet get j) order → AllByRecursion (λ j. HasSet now j) order
  still_there [] apart_from there = tt
  still_there (j ∷ order) apart_from there = (
    (there.0.0, updates.others j (λ e. apart_from.0 (sym e)) ∙ there.0.1),
    still_there order apart_from.1 there.1,
  )

-- a slot in which no set stands is none of the order
empty_is_fresh : (get : Get) (k : ℕ) → get k ≡ None → (order : List ℕ)
    → AllByRecursion (λ j. HasSet get j) order → AllByRecursion (λ j. k ≢ j) order
empty_is_fresh get k empty [] there = tt
empty_is_fresh get k empty (j ∷ order) there = (
  (λ e. (let here : get k ≡ Some there.0.0 = ap get e ∙ there.0.1 in grind (arith, here, empty))),
  empty_is_fresh get k empty order there.1,
)

module _ (law : PlacedRise) (get now : Get) (order : List ℕ) (n k : ℕ) (set : RecordSet)
    (h : IsOrderBy get order) (empty : get k ≡ None) (updates : Updates get now k (Some set))
    (low : k < 2 ^ 32)
    (found : FindsNone (sets_of (slotted_by get order)) (key_of set) n) where
  abbrev front : List ℕ
  front = take n order

  abbrev back : List ℕ
  back = drop n order

  fresh : AllByRecursion (λ j. k ≢ j) order
  fresh = empty_is_fresh get k empty order h.present

  -- facts of all slots, as those in front and those behind
  parts : (P : List ℕ → Type 0) → P order → P (front ++ back)
  parts P p = subst P (split n order) p

  pub put_placed : slotted_by now (insert order n k) ≡ insert (slotted_by get order) n
      (record { slot = k; set = set })
  put_placed =
      let here : slotted_at now k ≡ record { slot = k; set = set } =
      ap (λ (found : Option RecordSet). record { slot = k; set = unwrap_or found no_set }) updates.changed in
      map_insert (slotted_at now) order n k
      ∙ (ap (λ p. insert (slotted_by now order) n p) here
      ∙ ap (λ ps. insert ps n (record { slot = k; set = set })) (same_map get now k
      (Some set) updates order fresh))

  sets_put : sets_of (slotted_by now (insert order n k)) ≡ insert (sets_of (slotted_by get order)) n set
  sets_put = ap sets_of put_placed
      ∙ map_insert (λ (p : Slotted). p.set) (slotted_by get order) n (record { slot = k; set = set })

  pub put_order : IsOrderBy now (insert order n k)
  put_order = record {
    present =
        all_put (λ j. HasSet now j) front back k
        (parts (λ o. AllByRecursion (λ j. HasSet now j) o)
        (still_there get now k (Some set) updates order fresh h.present)) (set, updates.changed);
    only = only;
    distinct =
        distinct_put front back k (parts AreDistinct h.distinct) (parts (λ o. AllByRecursion
        (λ j. k ≢ j) o) fresh);
    few = all_put (λ j. j < 2 ^ 32) front back k (parts (λ o. AllByRecursion (λ j. j < 2 ^ 32) o) h.few) low;
    rising = subst IsRising (sym sets_put)
        (put_rises law (sets_of (slotted_by get order)) set n h.rising found);
  }
    where
      by : (j : ℕ) (x : RecordSet) → now j ≡ Some x → (k ≡ j) ⊎ (k ≢ j) → IsAmong (front ++ k ∷ back) j
      by j x at (inl e) = subst (λ i. IsAmong (front ++ k ∷ back) i) e (in_itself front back k)
      by j x at (inr ne) =
          in_put front back k j (parts (λ o. IsAmong o j) (h.only j x (sym (updates.others j (λ e. ne
          (sym e))) ∙ at)))

      only : (j : ℕ) (x : RecordSet) → now j ≡ Some x → IsAmong (front ++ k ∷ back) j
      only j x at = by j x at (cases_eq k j)

  pub put_is : IsPut (slotted_by get order) (record { slot = k; set = set }) (slotted_by now (insert order n k))
  put_is = record {
    at = n;
    within = (let w = found.within in
        let l : length (sets_of (slotted_by get order)) ≡ length (slotted_by get order) =
        length-map (slotted_by get order) (λ (p : Slotted). p.set) in
        omega (arith, w, l));
    inserted = put_placed;
    rising = put_order.rising;
  }

module _ (get now : Get) (order : List ℕ) (n k : ℕ) (h : IsOrderBy get order)
    (at_n : slice_get order n ≡ Some k)
    (updates : Updates get now k None) where
  abbrev before : List ℕ
  before = take n order

  abbrev behind : List ℕ
  behind = drop (suc n) order

  whole : (P : List ℕ → Type 0) → P order → P (before ++ k ∷ behind)
  whole P p = subst P (split_at order n k at_n) p

  others : AllByRecursion (λ j. k ≢ j) (before ++ behind)
  others = apart before behind k (whole AreDistinct h.distinct)

  taken_placed : slotted_by now (remove order n) ≡ remove (slotted_by get order) n
  taken_placed = same_map get now k None updates (before ++ behind) others
      ∙ map_remove (slotted_at get) order n

  pub taken_order : IsOrderBy now (remove order n)
  taken_order = record {
    present =
        still_there get now k None updates (before ++ behind) others
        (all_taken (λ j. HasSet get j) before behind k (whole (λ o. AllByRecursion
        (λ j. HasSet get j) o) h.present));
    only = only;
    distinct = distinct_taken before behind k (whole AreDistinct h.distinct);
    few = all_taken (λ j. j < 2 ^ 32) before behind k (whole (λ o. AllByRecursion (λ j. j < 2 ^ 32) o) h.few);
    rising = subst IsRising (sym sets_taken) rises;
  }
    where
      only : (j : ℕ) (x : RecordSet) → now j ≡ Some x → IsAmong (before ++ behind) j
      only j x at =
          let apart_from : k ≢ j =
          λ e. (let none : now j ≡ None = ap now (sym e) ∙ updates.changed in grind (arith, at, none)) in
          in_taken before behind k j apart_from
          (whole (λ o. IsAmong o j) (h.only j x (sym (updates.others j (λ e. apart_from (sym e))) ∙ at)))

      set_of : ℕ → RecordSet
      set_of j = (slotted_at get j).set

      sets_map : (os : List ℕ) → sets_of (slotted_by get os) ≡ map set_of os
      sets_map [] = refl
      sets_map (o ∷ os) = ap (λ ss. set_of o ∷ ss) (sets_map os)

      rises : IsRising (map set_of before ++ map set_of behind)
      rises =
          rising_taken (map set_of before) (map set_of behind) (set_of k)
          (subst IsRising (sets_map (before ++ k ∷ behind) ∙ map-append set_of before (k ∷ behind))
          (whole (λ o. IsRising (sets_of (slotted_by get o))) h.rising))

      sets_taken : sets_of (slotted_by now (remove order n)) ≡ map set_of before ++ map set_of behind
      sets_taken = ap sets_of (same_map get now k None updates (before ++ behind) others)
          ∙ (sets_map (before ++ behind) ∙ map-append set_of before behind)

  pub taken_is : IsTakenAt (slotted_by get order) n k (slotted_by now (remove order n))
  taken_is = record {
    set = (slotted_at get k).set;
    there = slice_get-map (slotted_at get) order n ∙ ap (λ (o : Option ℕ). option_map (slotted_at get) o) at_n;
    removed = taken_placed;
  }

-- ---- what callers see

own_slots : (get : Get) (order : List ℕ) → AreDistinct order → HaveOwnSlots (slotted_by get order)
own_slots get [] distinct = tt
own_slots get (k ∷ order) distinct = (others order distinct.0, own_slots get order distinct.1)
  where
    others : (rest : List ℕ) → AllByRecursion (λ j. k ≢ j) rest
        → AllByRecursion (λ q. k ≢ q.slot) (slotted_by get rest)
    others [] all = tt
    others (j ∷ rest) all = (all.0, others rest all.1)

few_slots : (get : Get) (order : List ℕ) → AllByRecursion (λ k. k < 2 ^ 32) order
    → AllByRecursion (λ p. p.slot < 2 ^ 32) (slotted_by get order)
few_slots get [] all = tt
few_slots get (k ∷ order) all = (all.0, few_slots get order all.1)

pub of_zone : (get : Get) (order : List ℕ) → IsOrderBy get order → AreOfZone (slotted_by get order)
of_zone get order h =
    record { rising = h.rising; own = own_slots get order h.distinct; few = few_slots get order h.few }

-- what stands in a slot is here
pub there : (get : Get) (order : List ℕ) (k : ℕ) (set : RecordSet) → get k ≡ Some set → IsAmong order k
    → IsHere (slotted_by get order) (record { slot = k; set = set })
there get [] k set at is_in = absurd is_in
there get (j ∷ order) k set at (inl e) =
    inl (ap (slotted_at get) e
    ∙ ap (λ (found : Option RecordSet). record { slot = k; set = unwrap_or found no_set }) at)
there get (j ∷ order) k set at (inr is_in) = inr (there get order k set at is_in)

pub at_place : (get : Get) (order : List ℕ) → AllByRecursion (λ k. HasSet get k) order → (i k : ℕ)
    → slice_get order i ≡ Some k
    → (set : RecordSet) × (get k ≡ Some set)
    × (slice_get (slotted_by get order) i ≡ Some (record { slot = k; set = set }))
at_place get order present i k at =
    let has = all_found (λ j. HasSet get j) order i k present at in (
      has.0,
      has.1,
      slice_get-map (slotted_at get) order i
          ∙ (ap (λ (o : Option ℕ). option_map (slotted_at get) o) at
          ∙ ap (λ (found : Option RecordSet). Some
          (record { slot = k; set = unwrap_or found no_set })) has.1),
    )

-- where no set stands in a slot none is placed in it
pub not_there : (get : Get) (order : List ℕ) → AllByRecursion (λ j. HasSet get j) order → (k : ℕ)
    → get k ≡ None
    → (set : RecordSet) → IsHere (slotted_by get order) (record { slot = k; set = set }) → ⊥
not_there get [] has k none set here = here
not_there get (j ∷ order) has k none set (inl e) =
    let slot : j ≡ k = ap (λ (p : Slotted). p.slot) e in
    let here : get k ≡ Some has.0.0 = ap get (sym slot) ∙ has.0.1 in
    grind (arith, none, here)
not_there get (j ∷ order) has k none set (inr here) = not_there get order has.1 k none set here
