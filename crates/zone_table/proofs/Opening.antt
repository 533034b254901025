-- A zone that is opened.
use Rattle.std.proofs.Common.{◌≡◌, ◌≢◌, ◌<◌, ◌≤◌, ℕ, List, [], ◌∷◌, ◌++◌, take, drop, ap, ◌∙◌, sym, Option, Some, subst, arith, inl, inr}
use Rattle.std.specs.Prelude.{slice_get}
use Rattle.std.specs.List.{AllByRecursion, insert, take-map}
use Rattle.std.proofs.lemmas.Bool.{cases_eq}
use Rattle.std.proofs.lemmas.List.{map-append}
use Rattle.zone_list.specs.RecordSetRecord.{RecordSet}
use Rattle.zone_list.specs.Stored.{Kept}
use Rattle.zone_list.specs.SetsOfRecordSet.{key_of}
use Rattle.zone_list.specs.Placing.{IsThere}
use Rattle.zone_list.proofs.Among.{among_at}
use Rattle.zone_list.proofs.ListsOfZoneModel.{drop_map, split}
use Rattle.zone_list.specs.Orders.{IsOrder, OthersStay, slotted_of}
use Rattle.zone_list.specs.Changes.{CanBeAdded, CanChange, Changes, IsKeyOf}
use Rattle.zone_list.specs.Found.{IsSplit}
use Rattle.zone_list.specs.Sums.{sums_of}
use Rattle.zone_list.specs.Kept.{AreIntact, HasId, Listed, named, named_of, IsIntact, zone_in, zones_in}
use Rattle.zone_list.specs.Zones.{AreListed, CanStand, IsOne, Zone}
use Rattle.zone_table.specs.declared.edits.ZoneEdit.TheVariants as edit
use Rattle.zone_list.specs.declared.refs.SetRef.{SetRef}
use Rattle.zone_table.specs.Edits.{Edits, IsAllowed}
use Rattle.zone_table.proofs.Edited.{all_back, all_front, Before, listed_put, opened_edits}
use Rattle.zone_table.proofs.Kept.{changed_stands, opened_kept, opened_zones, part_zones}
use Rattle.zone_finding.proofs.Naming.{in_map, of_map, one_with, with_sets}

-- no set is of a zone that isn't there
pub empty_order : (slots : List (Option Kept)) (list : List Listed) → AreIntact slots list → (id : ℕ)
    → (HasId list id → ⊥) → IsOrder slots id []
empty_order slots list kept id new = record {
  present = tt;
  only = λ k set at. absurd (new (kept.owned id k set at));
  distinct = tt;
  few = tt;
  rising = tt;
}

pub stands_empty : (slots : List (Option Kept)) (list : List Listed) → AreIntact slots list → (k : Listed)
    → k.order ≡ [] → k.sums ≡ sums_of [] → 0 < k.id → (HasId list k.id → ⊥) → IsIntact slots k
stands_empty slots list kept k empty none numbered new = record {
  numbered = numbered;
  order = subst (λ (order : List ℕ). IsOrder slots k.id order) (sym empty)
      (empty_order slots list kept k.id new);
  each = subst (λ (order : List ℕ). AllByRecursion (λ p. CanStand k.apex p.set)
      (slotted_of slots k.id order)) (sym empty) tt;
  counted = none ∙ ap (λ (order : List ℕ). sums_of (slotted_of slots k.id order)) (sym empty);
}

-- sets that can be added to a zone without sets
pub can_open : (apex : List (List ℕ)) (add : List RecordSet) → CanBeAdded apex add
    → CanChange apex [] [] add
can_open apex add added = record { there = tt; added = added; new = by add }
  where
    by : (sets : List RecordSet)
        → AllByRecursion (λ set. IsThere [] (key_of set) → IsKeyOf [] (key_of set)) sets
    by [] = tt
    by (set ∷ sets) = ((λ there. absurd there.1.there), by sets)

module _ (slots : List (Option Kept)) (list : List Listed) (n : ℕ) (k : Listed) (sets : List RecordSet)
    (listed : AreListed (named_of list)) (here : IsSplit (named_of list) k.id n n)
    (allowed : IsAllowed (zones_in slots list) (edit.Begin k.id k.apex sets)) where
  abbrev all : List Zone
  all = named_of list

  other_name : (x : Zone) → IsOne all x → x.apex ≢ k.apex
  other_name x there e =
      let j = of_map named list x there in
      allowed.1 (
        zone_in slots j.0,
        in_map (zone_in slots) list j.0 j.1,
        ap (λ (z : Zone). z.apex) j.2 ∙ e,
      )

  other_id : (x : Zone) → IsOne all x → x.id ≢ k.id
  other_id x there e =
      let j = of_map named list x there in
      allowed.0 (one_with slots list k.id (j.0, j.1, ap (λ (z : Zone). z.id) j.2 ∙ e))

  pub new_id : HasId list k.id → ⊥
  new_id is = allowed.0 (one_with slots list k.id is)

  low : (i : ℕ) (x : Zone) → i < n → slice_get all i ≡ Some x → Before x (named k)
  low i x lt at = (here.before i x lt at, other_name x (among_at all i x at))

  high : (i : ℕ) (x : Zone) → n ≤ i → slice_get all i ≡ Some x → Before (named k) x
  high i x le at =
      let up = here.behind i x le at in
      let there = among_at all i x at in (
        elim (cases_eq k.id x.id) [
          | inl e ↦ absurd (other_id x there (sym e))
          | inr ne ↦ omega (arith, up, ne)
        ],
        λ e. other_name x there (sym e),
      )

  -- the zones with one more, at its place
  pub listed_with : AreListed (named_of (take n list ++ k ∷ drop n list))
  listed_with =
      subst AreListed (sym (map-append named (take n list) (k ∷ drop n list)
      ∙ (ap (λ zs. zs ++ named k ∷ named_of (drop n list)) (sym (take-map named n list))
      ∙ ap (λ zs. take n all ++ named k ∷ zs) (sym (drop_map named n list)))))
      (listed_put (take n all) (drop n all) (named k) (subst AreListed (split n all) listed)
      (all_front (λ x. Before x (named k)) all n low) (all_back (Before (named k)) all n high))

-- ---- once it is opened

module _ (slots now : List (Option Kept)) (list : List Listed) (n : ℕ) (was k : Listed)
    (sets : List RecordSet) (removed added : List SetRef) (kept : AreIntact slots list)
    (allowed : IsAllowed (zones_in slots list) (edit.Begin was.id was.apex sets))
    (empty : was.order ≡ []) (none : was.sums ≡ sums_of [])
    (id : k.id ≡ was.id) (apex : k.apex ≡ was.apex) (order : IsOrder now k.id k.order)
    (changes : Changes was.id (slotted_of slots was.id was.order) [] sets removed added
    (slotted_of now k.id k.order))
    (others : OthersStay was.id slots now) (sums : k.sums ≡ sums_of (slotted_of now k.id k.order))
    (place : IsSplit (named_of list) was.id n n) where
  allowed_now : IsAllowed (zones_in slots list) (edit.Begin k.id k.apex sets)
  allowed_now =
      subst (λ (i : ℕ). IsAllowed (zones_in slots list) (edit.Begin i k.apex sets)) (sym id)
      (subst (λ (a : List (List ℕ)). IsAllowed (zones_in slots list) (edit.Begin was.id a sets)) (sym apex)
      allowed)

  others_now : OthersStay k.id slots now
  others_now = subst (λ (i : ℕ). OthersStay i slots now) (sym id) others

  place_now : IsSplit (named_of list) k.id n n
  place_now = subst (λ (i : ℕ). IsSplit (named_of list) i n n) (sym id) place

  stands_now : IsIntact now k
  stands_now =
      changed_stands slots now was k apex order [] sets removed added changes
      (stands_empty slots list kept was empty none allowed.3
      (λ is. allowed.0 (one_with slots list was.id is))) allowed.2.each sums id

  new : HasId list k.id → ⊥
  new = new_id slots list n k sets kept.listed place_now allowed_now

  listed_now : AreListed (named_of (take n list ++ k ∷ drop n list))
  listed_now = listed_with slots list n k sets kept.listed place_now allowed_now

  pub kept_so : AreIntact now (insert list n k)
  kept_so = opened_kept slots now list n k kept others_now new stands_now listed_now

  pub edits_so : Edits (zones_in slots list) (edit.Begin was.id was.apex sets)
      (zones_in now (insert list n k)) (record { zone = was.id; removed = removed; added = added })
  edits_so =
      let from_none : Changes was.id [] [] sets removed added (slotted_of now k.id k.order) =
      subst (λ (o : List ℕ). Changes was.id (slotted_of slots was.id o) [] sets removed added
      (slotted_of now k.id k.order)) empty changes in
      let edits : Edits (zones_in slots list) (edit.Begin k.id k.apex sets)
      (zones_in now (insert list n k)) (record { zone = k.id; removed = removed; added = added }) =
      opened_edits (zones_in slots list) (zones_in now (insert list n k)) (zones_in slots (take n list))
      (zones_in slots (drop n list)) (zone_in now k)
      (part_zones slots now list n k kept others_now new stands_now listed_now)
      (opened_zones slots now list n k kept others_now new stands_now listed_now)
      (with_sets now (insert list n k) kept_so.listed) sets removed added
      (subst (λ (i : ℕ). Changes i [] [] sets removed added (slotted_of now k.id k.order)) (sym id)
      from_none) in
      subst (λ (i : ℕ). Edits (zones_in slots list) (edit.Begin i was.apex sets)
      (zones_in now (insert list n k)) (record { zone = i; removed = removed; added = added })) id
      (subst (λ (a : List (List ℕ)). Edits (zones_in slots list) (edit.Begin k.id a sets)
      (zones_in now (insert list n k)) (record { zone = k.id; removed = removed; added = added })) apex
      edits)
