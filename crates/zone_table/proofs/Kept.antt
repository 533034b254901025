-- What one zone's change leaves of the others.
use Rattle.std.proofs.Common.{◌≡◌, ◌≢◌, ℕ, suc, ◌<◌, List, [], ◌∷◌, ◌++◌, length, take, drop, ap, ◌∙◌, sym, refl, Option, Some, subst, arith, inl, inr}
use Rattle.std.specs.Prelude.{slice_get, slice_set}
use Rattle.std.specs.List.{AllByRecursion, insert, remove}
use Rattle.std.proofs.lemmas.Bool.{cases_eq}
use Rattle.std.proofs.lemmas.List.{map-append}
use Rattle.zone_list.specs.RecordSetRecord.{RecordSet}
use Rattle.zone_list.specs.Stored.{Kept}
use Rattle.zone_list.specs.Sets.{IsAmong}
use Rattle.zone_list.proofs.ListsOfZoneModel.{all_put, all_taken, in_itself, in_put, in_taken, split, split_at}
use Rattle.zone_list.specs.Orders.{IsOrder, IsOrderBy, OthersStay, slotted_by, slotted_of, set_in}
use Rattle.zone_list.specs.Sums.{sums_of}
use Rattle.zone_list.specs.Kept.{AreIntact, HasId, Listed, named, named_of, IsIntact, zone_in, zones_in}
use Rattle.zone_list.specs.Zones.{AreListed, CanStand, Zone}
use Rattle.zone_list.specs.SetKeyRecord.{SetKey}
use Rattle.zone_list.specs.declared.refs.SetRef.{SetRef}
use Rattle.zone_list.specs.Changes.{Changes}
use Rattle.zone_list.proofs.Made.{all_kept}
use Rattle.zone_list.proofs.Coming.{set_parts}
use Rattle.zone_list.proofs.Members.{put_or_in}
use Rattle.zone_table.proofs.Edited.{Before, in_middle}

-- the others have other numbers
apart_back : (k : Listed) (rest : List Listed) → AllByRecursion (Before (named k)) (named_of rest)
    → AllByRecursion (λ j. j.id ≢ k.id) rest
apart_back k [] all = tt
apart_back k (j ∷ rest) all =
    ((λ e. (let lt = all.0.0 in omega (arith, lt, e))), apart_back k rest all.1)

apart : (front back : List Listed) (k : Listed) → AreListed (named_of (front ++ k ∷ back))
    → AllByRecursion (λ j. j.id ≢ k.id) (front ++ back)
apart [] back k listed = apart_back k back listed.0
apart (j ∷ front) back k listed =
    let lower = in_middle (Before (named j)) (named_of front) (named_of back) (named k)
    (subst (AllByRecursion (Before (named j))) (map-append named front (k ∷ back)) listed.0) in
    ((λ e. (let lt = lower.0 in omega (arith, lt, e))), apart front back k listed.1)

module _ (slots now : List (Option Kept)) (zone : ℕ) (others : OthersStay zone slots now) where
  same_get : (other : ℕ) → other ≢ zone → set_in now other ≡ set_in slots other
  same_get other ne = λ i slot. others other slot ne i

  same_zone : (k : Listed) → k.id ≢ zone → zone_in now k ≡ zone_in slots k
  same_zone k ne =
      ap (λ get. record { id = k.id; apex = k.apex; placed = slotted_by get k.order }) (same_get k.id ne)

  stands_still : (k : Listed) → k.id ≢ zone → IsIntact slots k → IsIntact now k
  stands_still k ne stands = record {
    numbered = stands.numbered;
    order = subst (λ get. IsOrderBy get k.order) (sym (same_get k.id ne)) stands.order;
    each = subst (λ get. AllByRecursion (λ p. CanStand k.apex p.set) (slotted_by get k.order))
        (sym (same_get k.id ne)) stands.each;
    counted = stands.counted ∙ ap (λ get. sums_of (slotted_by get k.order)) (sym (same_get k.id ne));
  }

  same_zones : (ks : List Listed) → AllByRecursion (λ k. k.id ≢ zone) ks → zones_in now ks ≡ zones_in slots ks
  same_zones [] all = refl
  same_zones (k ∷ ks) all =
      ap (λ z. z ∷ zones_in now ks) (same_zone k all.0) ∙ ap (λ zs. zone_in slots k ∷ zs) (same_zones ks all.1)

  all_stand : (ks : List Listed) → AllByRecursion (λ k. k.id ≢ zone) ks → AllByRecursion (IsIntact slots) ks
      → AllByRecursion (IsIntact now) ks
  all_stand [] all each = tt
  all_stand (k ∷ ks) all each = (stands_still k all.0 each.0, all_stand ks all.1 each.1)

  -- a list of which one zone changes: its place, and all others
  module _ (front back : List Listed) (all : AllByRecursion (λ k. k.id ≢ zone) (front ++ back)) where
    pub fronts : zones_in now front ≡ zones_in slots front
    fronts = same_zones front (front_of front all)
      where
        front_of : (ks : List Listed) → AllByRecursion (λ k. k.id ≢ zone) (ks ++ back)
            → AllByRecursion (λ k. k.id ≢ zone) ks
        front_of [] h = tt
        front_of (k ∷ ks) h = (h.0, front_of ks h.1)

    pub backs : zones_in now back ≡ zones_in slots back
    backs = same_zones back (back_of front all)
      where
        back_of : (ks : List Listed) → AllByRecursion (λ k. k.id ≢ zone) (ks ++ back)
            → AllByRecursion (λ k. k.id ≢ zone) back
        back_of [] h = h
        back_of (k ∷ ks) h = back_of ks h.1

    pub with_one : (k : Listed) → zones_in now (front ++ k ∷ back)
        ≡ zones_in slots front ++ zone_in now k ∷ zones_in slots back
    with_one k = map-append (zone_in now) front (k ∷ back)
        ∙ (ap (λ zs. zs ++ zone_in now k ∷ zones_in now back) fronts
        ∙ ap (λ zs. zones_in slots front ++ zone_in now k ∷ zs) backs)

    pub with_none : zones_in now (front ++ back) ≡ zones_in slots front ++ zones_in slots back
    with_none = map-append (zone_in now) front back
        ∙ (ap (λ zs. zs ++ zones_in now back) fronts ∙ ap (λ zs. zones_in slots front ++ zs) backs)

-- what a zone holds once its sets changed
pub changed_stands : (slots now : List (Option Kept)) (k k_now : Listed) → k_now.apex ≡ k.apex
    → IsOrder now k_now.id k_now.order → (remove : List SetKey) (add : List RecordSet)
    → (removed added : List SetRef)
    → Changes k.id (slotted_of slots k.id k.order) remove add removed added (slotted_of now k_now.id k_now.order)
    → IsIntact slots k → AllByRecursion (CanStand k.apex) add
    → k_now.sums ≡ sums_of (slotted_of now k_now.id k_now.order) → k_now.id ≡ k.id → IsIntact now k_now
changed_stands slots now k k_now same_apex order remove add removed added changes stands each counted same_id = record {
  numbered = (let some = stands.numbered in omega (arith, some, same_id));
  order = order;
  each = subst (λ (a : List (List ℕ)). AllByRecursion (λ p. CanStand a p.set)
      (slotted_of now k_now.id k_now.order)) (sym same_apex)
      (all_kept (CanStand k.apex) k.id (slotted_of slots k.id k.order) remove add removed added
      (slotted_of now k_now.id k_now.order) changes stands.each each);
  counted = counted;
}

-- ---- a zone changed

module _ (slots now : List (Option Kept)) (list : List Listed) (i : ℕ) (k k_now : Listed)
    (at : slice_get list i ≡ Some k) (inside : i < length list) (kept : AreIntact slots list)
    (others : OthersStay k.id slots now) (same_id : k_now.id ≡ k.id) (same_apex : k_now.apex ≡ k.apex)
    (stands : IsIntact now k_now) where
  abbrev front : List Listed
  front = take i list

  abbrev back : List Listed
  back = drop (suc i) list

  whole : list ≡ front ++ k ∷ back
  whole = split_at list i k at

  changed : slice_set list i k_now ≡ front ++ k_now ∷ back
  changed = set_parts list i k_now inside

  others_apart : AllByRecursion (λ j. j.id ≢ k.id) (front ++ back)
  others_apart = apart front back k (subst (λ ks. AreListed (named_of ks)) whole kept.listed)

  pub changed_zones : zones_in now (slice_set list i k_now)
      ≡ zones_in slots front ++ zone_in now k_now ∷ zones_in slots back
  changed_zones = ap (zones_in now) changed ∙ with_one slots now k.id others front back others_apart k_now

  pub whole_zones : zones_in slots list ≡ zones_in slots front ++ zone_in slots k ∷ zones_in slots back
  whole_zones = ap (zones_in slots) whole ∙ map-append (zone_in slots) front (k ∷ back)

  same_named : named_of (front ++ k_now ∷ back) ≡ named_of (front ++ k ∷ back)
  same_named = map-append named front (k_now ∷ back)
      ∙ (ap (λ (z : Zone). named_of front ++ z ∷ named_of back)
      (ap (λ (n : ℕ). record { id = n; apex = k_now.apex; placed = [] }) same_id
      ∙ ap (λ (a : List (List ℕ)). record { id = k.id; apex = a; placed = [] }) same_apex)
      ∙ sym (map-append named front (k ∷ back)))

  pub changed_kept : AreIntact now (slice_set list i k_now)
  changed_kept = subst (AreIntact now) (sym changed) (record {
    listed = subst AreListed (sym same_named) (subst (λ ks. AreListed (named_of ks)) whole kept.listed);
    each = all_put (IsIntact now) front back k_now
        (all_stand slots now k.id others (front ++ back) others_apart
        (all_taken (IsIntact slots) front back k (subst (AllByRecursion (IsIntact slots)) whole kept.each)))
        stands;
    owned = owned;
  })
    where
      moved : (zone : ℕ) → HasId (front ++ k ∷ back) zone → HasId (front ++ k_now ∷ back) zone
      moved zone (j, there, is) = elim (put_or_in front back k j there) [
        | inl e ↦
            (k_now, in_itself front back k_now, same_id ∙ (ap (λ (l : Listed). l.id) e ∙ is))
        | inr rest ↦ (j, in_put front back k_now j rest, is)
      ]

      owned : (zone slot : ℕ) (set : RecordSet) → set_in now zone slot ≡ Some set
          → HasId (front ++ k_now ∷ back) zone
      owned zone slot set here = elim (cases_eq zone k.id) [
        | inl e ↦ (k_now, in_itself front back k_now, same_id ∙ sym e)
        | inr ne ↦
            moved zone (subst (λ ks. HasId ks zone) whole
            (kept.owned zone slot set (sym (others zone slot ne) ∙ here)))
      ]

-- ---- a zone closed

module _ (slots now : List (Option Kept)) (list : List Listed) (i : ℕ) (k : Listed)
    (at : slice_get list i ≡ Some k) (kept : AreIntact slots list)
    (others : OthersStay k.id slots now) (empty : IsOrder now k.id []) where
  abbrev low : List Listed
  low = take i list

  abbrev high : List Listed
  high = drop (suc i) list

  all : list ≡ low ++ k ∷ high
  all = split_at list i k at

  rest_apart : AllByRecursion (λ j. j.id ≢ k.id) (low ++ high)
  rest_apart = apart low high k (subst (λ ks. AreListed (named_of ks)) all kept.listed)

  pub closed_zones : zones_in now (remove list i) ≡ zones_in slots low ++ zones_in slots high
  closed_zones = with_none slots now k.id others low high rest_apart

  pub all_zones : zones_in slots list ≡ zones_in slots low ++ zone_in slots k ∷ zones_in slots high
  all_zones = ap (zones_in slots) all ∙ map-append (zone_in slots) low (k ∷ high)

  pub closed_kept : AreIntact now (remove list i)
  closed_kept = record {
    listed = still_listed low (subst (λ ks. AreListed (named_of ks)) all kept.listed);
    each =
        all_stand slots now k.id others (low ++ high) rest_apart
        (all_taken (IsIntact slots) low high k (subst (AllByRecursion (IsIntact slots)) all kept.each));
    owned = owned;
  }
    where
      fewer : (j : Listed) (front : List Listed)
          → AllByRecursion (Before (named j)) (named_of (front ++ k ∷ high))
          → AllByRecursion (Before (named j)) (named_of (front ++ high))
      fewer j [] h = h.1
      fewer j (x ∷ front) h = (h.0, fewer j front h.1)

      still_listed : (front : List Listed) → AreListed (named_of (front ++ k ∷ high))
          → AreListed (named_of (front ++ high))
      still_listed [] listed = listed.1
      still_listed (j ∷ front) listed = (fewer j front listed.0, still_listed front listed.1)

      owned : (zone slot : ℕ) (set : RecordSet) → set_in now zone slot ≡ Some set
          → HasId (low ++ high) zone
      owned zone slot set here = elim (cases_eq zone k.id) [
        | inl e ↦
            absurd (empty.only slot set (ap (λ n. set_in now n slot) (sym e) ∙ here))
        | inr ne ↦
            (let was = subst (λ ks. HasId ks zone) all
            (kept.owned zone slot set (sym (others zone slot ne) ∙ here)) in (
              was.0,
              in_taken low high k was.0
                  (λ e. ne (sym was.2 ∙ ap (λ (l : Listed). l.id) (sym e))) was.1,
              was.2,
            ))
      ]

-- ---- a zone opened

module _ (slots now : List (Option Kept)) (list : List Listed) (n : ℕ) (k : Listed)
    (kept : AreIntact slots list) (others : OthersStay k.id slots now)
    (new : HasId list k.id → ⊥) (stands : IsIntact now k)
    (listed : AreListed (named_of (take n list ++ k ∷ drop n list))) where
  parts : list ≡ take n list ++ drop n list
  parts = split n list

  all_apart : (ks : List Listed) → ((j : Listed) → IsAmong ks j → HasId list j.id)
      → AllByRecursion (λ j. j.id ≢ k.id) ks
  all_apart [] there = tt
  all_apart (j ∷ ks) there =
      ((λ e. new (subst (HasId list) e (there j (inl refl)))), all_apart ks (λ x at. there x (inr at)))

  ones : AllByRecursion (λ j. j.id ≢ k.id) (take n list ++ drop n list)
  ones = subst (AllByRecursion (λ j. j.id ≢ k.id)) parts (all_apart list (λ j there. (j, there, refl)))

  pub opened_zones : zones_in now (insert list n k)
      ≡ zones_in slots (take n list) ++ zone_in now k ∷ zones_in slots (drop n list)
  opened_zones = with_one slots now k.id others (take n list) (drop n list) ones k

  pub part_zones : zones_in slots list ≡ zones_in slots (take n list) ++ zones_in slots (drop n list)
  part_zones = ap (zones_in slots) parts ∙ map-append (zone_in slots) (take n list) (drop n list)

  pub opened_kept : AreIntact now (insert list n k)
  opened_kept = record {
    listed = listed;
    each = all_put (IsIntact now) (take n list) (drop n list) k
        (all_stand slots now k.id others (take n list ++ drop n list) ones
        (subst (AllByRecursion (IsIntact slots)) parts kept.each)) stands;
    owned = owned;
  }
    where
      owned : (zone slot : ℕ) (set : RecordSet) → set_in now zone slot ≡ Some set
          → HasId (take n list ++ k ∷ drop n list) zone
      owned zone slot set here = elim (cases_eq zone k.id) [
        | inl e ↦ (k, in_itself (take n list) (drop n list) k, sym e)
        | inr ne ↦
            (let was = subst (λ ks. HasId ks zone) parts
            (kept.owned zone slot set (sym (others zone slot ne) ∙ here)) in
            (was.0, in_put (take n list) (drop n list) k was.0 was.1, was.2))
      ]
