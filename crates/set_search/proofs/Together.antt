-- The sets of a group stand side by side.
use Rattle.std.proofs.Common.{◌≡◌, ℕ, zero, suc, ◌+◌, ◌-◌, ◌<◌, ◌≤◌, List, [], ◌∷◌, take, drop, ap, ◌∙◌, sym, refl, Bool, true, false, Option, None, Some, Less, Equal, Greater, subst, arith, cond, inl, inr}
use Rattle.std.specs.Prelude.{◌⊎◌, slice_get, not, ◌&&◌, ◌==◌}
use Rattle.std.specs.List.{filter}
use Rattle.std.specs.declared.cmp.Ordering.{Ordering}
use Rattle.std.specs.Ordering.{is_gt, is_lt, is_eq, nat_cmp, ordering_then, ordering_reverse}
use Rattle.std.specs.Cmp.{unsigned_ties}
use Rattle.std.proofs.lemmas.Cmp.{nat_cmp_total}
use Rattle.zone_model.specs.OrderOfDnsName.{zone_cmp, same_labels}
use Rattle.zone_model.specs.OrderLaws.{zone_cmp_total, zone_cmp_ties}
use Rattle.zone_model.specs.Types.{number_of}
use Rattle.zone_model.specs.RTypeRecord.{RType}
use Rattle.zone_model.specs.RecordSetRecord.{RecordSet}
use Rattle.zone_model.specs.SetKeyRecord.{SetKey}
use Rattle.zone_model.specs.Sets.{key_of}
use Rattle.zone_model.specs.Keys.{ident_cmp}
use Rattle.zone_model.specs.Zones.{is_of_group}
use Rattle.set_search.specs.declared.bounds.Bound.TheVariants as bound
use Rattle.set_search.specs.Bounds.{is_before, group_cmp}
use Rattle.set_search.specs.Found.{IsCount, IsGroupAt}
use Rattle.set_search.proofs.Filters.{filter_front}
use Rattle.set_search.proofs.Lookups.{filled, below_or_not}

-- what passes in the middle alone
filter_middle : {X : Type 0} (p : X → Bool) (xs : List X) (start n : ℕ)
    → ((k : ℕ) (x : X) → k < start → slice_get xs k ≡ Some x → p x ≡ false)
    → ((k : ℕ) (x : X) → start ≤ k → k < start + n → slice_get xs k ≡ Some x → p x ≡ true)
    → ((k : ℕ) (x : X) → start + n ≤ k → slice_get xs k ≡ Some x → p x ≡ false)
    → take n (drop start xs) ≡ filter p xs
filter_middle p xs zero n low middle high =
    sym (filter_front p xs n (λ k x lt at. middle k x (omega arith) (omega (arith, lt)) at)
    (λ k x le at. high k x (omega (arith, le)) at))
filter_middle p [] (suc start) zero low middle high = refl
filter_middle p [] (suc start) (suc n) low middle high = refl
filter_middle p (x ∷ xs) (suc start) n low middle high =
    let rest = filter_middle p xs start n (λ k y lt at. low (suc k) y (omega (arith, lt)) at)
    (λ k y le lt at. middle (suc k) y (omega (arith, le)) (omega (arith, lt)) at)
    (λ k y le at. high (suc k) y (omega (arith, le)) at) in
    subst (λ b. take n (drop start xs) ≡ cond b (x ∷ filter p xs) (filter p xs))
    (sym (low 0 x (omega arith) refl)) rest

-- a set without an identifier comes first
not_below_none : (ident : Option (List ℕ)) (o : Ordering)
    → is_lt (ordering_then o (ident_cmp ident None)) ≡ is_lt o
not_below_none None Less = refl
not_below_none None Equal = refl
not_below_none None Greater = refl
not_below_none (Some ident) Less = refl
not_below_none (Some ident) Equal = refl
not_below_none (Some ident) Greater = refl

tied_test : (o p : Ordering) → (is_eq o && is_eq p) ≡ is_eq (ordering_then o p)
tied_test Less p = refl
tied_test Equal p = refl
tied_test Greater p = refl

turned_tie : (o : Ordering) → is_eq (ordering_reverse o) ≡ is_eq o
turned_tie Less = refl
turned_tie Equal = refl
turned_tie Greater = refl

below_only : (o : Ordering) → is_lt o ≡ true → is_eq o ≡ false
below_only Less e = refl
below_only Equal e = absurd (grind (arith, e))
below_only Greater e = refl

above_only : (o : Ordering) → not (is_gt o) ≡ false → is_eq o ≡ false
above_only Less e = refl
above_only Equal e = absurd (grind (arith, e))
above_only Greater e = refl

neither : (o : Ordering) → is_lt o ≡ false → not (is_gt o) ≡ true → is_eq o ≡ true
neither Less e f = absurd (grind (arith, e))
neither Equal e f = refl
neither Greater e f = absurd (grind (arith, f))

pub below_not_above : (o : Ordering) → is_lt o ≡ true → not (is_gt o) ≡ true
below_not_above Less e = refl
below_not_above Equal e = refl
below_not_above Greater e = absurd (grind (arith, e))

module _ (name : List (List ℕ)) (rtype : RType) where
  abbrev pub first_key : SetKey
  first_key = record { name = name; rtype = rtype; ident = None }

  pub before_start : (x : RecordSet)
      → is_before (bound.From first_key) x ≡ is_lt (group_cmp x name rtype)
  before_start x = not_below_none (key_of x).ident (group_cmp x name rtype)

  pub of_group : (x : RecordSet) → is_of_group name rtype x ≡ is_eq (group_cmp x name rtype)
  of_group x =
      let names : same_labels name x.name ≡ is_eq (zone_cmp x.name name) =
      zone_cmp_ties name x.name
      ∙ (ap is_eq (zone_cmp_total.antisymm name x.name) ∙ turned_tie (zone_cmp x.name name)) in
      let types : (number_of rtype == number_of x.rtype)
      ≡ is_eq (nat_cmp (number_of x.rtype) (number_of rtype)) =
      unsigned_ties (number_of rtype) (number_of x.rtype)
      ∙ (ap is_eq (nat_cmp_total.antisymm (number_of rtype) (number_of x.rtype))
      ∙ turned_tie (nat_cmp (number_of x.rtype) (number_of rtype))) in
      ap (λ b. b && (number_of rtype == number_of x.rtype)) names
      ∙ ap (λ b. is_eq (zone_cmp x.name name) && b) types
      ∙ tied_test (zone_cmp x.name name) (nat_cmp (number_of x.rtype) (number_of rtype))

  module _ (sets : List RecordSet) (start end : ℕ)
      (from : IsCount sets (bound.From first_key) start)
      (to : IsCount sets (bound.PastGroup name rtype) end) where
    pub in_order : start ≤ end
    in_order = by (below_or_not end start)
      where
        by : (end < start) ⊎ (start ≤ end) → start ≤ end
        by (inl lt) =
            let inside = from.within in
            let x = filled sets end (omega (arith, lt, inside)) in
            let low = from.before end x.0 lt x.1 in
            let high = to.behind end x.0 (omega arith) x.1 in
            let up = below_not_above (group_cmp x.0 name rtype) (sym (before_start x.0) ∙ low) in
            absurd (grind (arith, up, high))
        by (inr le) = le

    pub group_at : IsGroupAt sets name rtype start (end - start)
    group_at = record {
      first = from;
      within = (let le = in_order in let inside = to.within in omega (arith, le, inside));
      members = filter_middle (is_of_group name rtype) sets start (end - start) low middle high;
    }
      where
        low : (k : ℕ) (x : RecordSet) → k < start → slice_get sets k ≡ Some x
            → is_of_group name rtype x ≡ false
        low k x lt at = of_group x
            ∙ below_only (group_cmp x name rtype) (sym (before_start x) ∙ from.before k x lt at)

        middle : (k : ℕ) (x : RecordSet) → start ≤ k → k < start + (end - start)
            → slice_get sets k ≡ Some x → is_of_group name rtype x ≡ true
        middle k x le lt at =
            let upper : k < end = (let o = in_order in omega (arith, lt, o)) in
            of_group x
            ∙ neither (group_cmp x name rtype) (sym (before_start x)
            ∙ from.behind k x le at) (to.before k x upper at)

        high : (k : ℕ) (x : RecordSet) → start + (end - start) ≤ k → slice_get sets k ≡ Some x
            → is_of_group name rtype x ≡ false
        high k x le at =
            let upper : end ≤ k = (let o = in_order in omega (arith, le, o)) in
            of_group x ∙ above_only (group_cmp x name rtype) (to.behind k x upper at)
