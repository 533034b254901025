-- Which sets are there after a change, and whether a group has one.
use Rattle.std.proofs.Common.{◌≡◌, ◌≢◌, ℕ, Bool, true, false, List, [], ◌∷◌, ◌++◌, ap, ◌∙◌, sym, refl, subst}
use Rattle.std.proofs.Common.{inl, inr, arith}
use Rattle.std.specs.Prelude.{◌⊎◌, cond}
use Rattle.std.specs.List.{filter}
use Rattle.rdata_layout.specs.declared.types.RType.{RType}
use Rattle.record_set.specs.Sets.{key_of}
use Rattle.record_set.specs.declared.sets.RecordSet.{RecordSet}
use Rattle.record_set.specs.declared.sets.SetKey.{SetKey}
use Rattle.zone_table.proofs.Equation.{in_with_all, in_without_all, new_with_all, of_with_all}
use Rattle.zone_table.proofs.Equation.{of_without_all, with_all_rises, without_all_rises}
use Rattle.zone_table.proofs.Members.{in_all}
use Rattle.zone_table.specs.Changes.{IsKeyOf, without_all}
use Rattle.zone_table.specs.Zones.{Zone}
use Rattle.zone_table.specs.Placing.{IsThere}
use Rattle.zone_table.specs.Sets.{IsAmong, IsRising, group, is_of_group}
use Rattle.zone_table.specs.Edits.{IsAllowed}
use Rattle.zone_table.specs.declared.edits.ZoneEdit.TheVariants.{Change}
use Rattle.alias_links.specs.After.{changed, sets_in}
use Rattle.alias_links.specs.Laws.{IsChange}

-- ---- two lists in one

module _ {X : Type 0} where
  pub in_front : (xs ys : List X) (x : X) → IsAmong xs x → IsAmong (xs ++ ys) x
  in_front [] ys x there = absurd there
  in_front (y ∷ xs) ys x (inl e) = inl e
  in_front (y ∷ xs) ys x (inr there) = inr (in_front xs ys x there)

  pub in_back : (xs ys : List X) (x : X) → IsAmong ys x → IsAmong (xs ++ ys) x
  in_back [] ys x there = there
  in_back (y ∷ xs) ys x there = inr (in_back xs ys x there)

  pub of_both : (xs ys : List X) (x : X) → IsAmong (xs ++ ys) x → IsAmong xs x ⊎ IsAmong ys x
  of_both [] ys x there = inr there
  of_both (y ∷ xs) ys x (inl e) = inl (inl e)
  of_both (y ∷ xs) ys x (inr there) = elim (of_both xs ys x there) [
    | inl front ↦ inl (inr front)
    | inr back ↦ inr back
  ]

-- ---- what passes a test

module _ {X : Type 0} (f : X → Bool) where
  pub in_filter : (xs : List X) (x : X) → IsAmong xs x → f x ≡ true → IsAmong (filter f xs) x
  in_filter [] x there passes = there
  in_filter (y ∷ xs) x (inl e) passes =
      subst (λ b. IsAmong (cond b (y ∷ filter f xs) (filter f xs)) x) (sym (ap f e ∙ passes)) (inl e)
  in_filter (y ∷ xs) x (inr there) passes = by (f y) (in_filter xs x there passes)
    where
      by : (b : Bool) → IsAmong (filter f xs) x → IsAmong (cond b (y ∷ filter f xs) (filter f xs)) x
      by true later = inr later
      by false later = later

  pub of_filter : (xs : List X) (x : X) → IsAmong (filter f xs) x → IsAmong xs x × (f x ≡ true)
  of_filter [] x there = absurd there
  of_filter (y ∷ xs) x there = by (f y) refl (of_filter xs x) there
    where
      by : (b : Bool) → f y ≡ b → (IsAmong (filter f xs) x → IsAmong xs x × (f x ≡ true))
          → IsAmong (cond b (y ∷ filter f xs) (filter f xs)) x → IsAmong (y ∷ xs) x × (f x ≡ true)
      by true e rest (inl same) = (inl same, ap f (sym same) ∙ e)
      by true e rest (inr later) = let is = rest later in (inr is.0, is.1)
      by false e rest later = let is = rest later in (inr is.0, is.1)

-- a list has something where it isn't empty
pub not_empty : {X : Type 0} (xs : List X) → xs ≢ [] → (x : X) × IsAmong xs x
not_empty [] some = absurd (some refl)
not_empty (x ∷ xs) some = (x, inl refl)

pub has_some : {X : Type 0} (xs : List X) (x : X) → IsAmong xs x → xs ≢ []
has_some [] x there e = there
has_some (y ∷ xs) x there e = grind (arith, e)

pub is_empty : {X : Type 0} (xs : List X) → ((x : X) → IsAmong xs x → ⊥) → xs ≡ []
is_empty [] none = refl
is_empty (x ∷ xs) none = absurd (none x (inl refl))

-- ---- after a change

module _ (sets : List RecordSet) (remove : List SetKey) (add : List RecordSet)
    (change : IsChange sets remove add) where
  pub kept_in : (x : RecordSet) → IsAmong sets x → (IsKeyOf remove (key_of x) → ⊥)
      → IsAmong (changed sets remove add) x
  kept_in x there stays =
      in_with_all add (without_all remove sets) x (in_without_all remove sets x there stays) none
    where
      none : IsThere add (key_of x) → ⊥
      none (kept, keeps) =
          let named = in_all (λ (set : RecordSet). IsThere sets (key_of set)
          → IsKeyOf remove (key_of set)) add kept change.new keeps.there
          (x, record { there = there; same_key = sym keeps.same_key }) in
          stays (subst (λ k. IsKeyOf remove k) keeps.same_key named)

  pub added_in : (x : RecordSet) → IsAmong add x → IsAmong (changed sets remove add) x
  added_in x there = new_with_all add (without_all remove sets) x change.differ there

pub of_changed : (sets : List RecordSet) (remove : List SetKey) (add : List RecordSet)
    (x : RecordSet) → IsAmong (changed sets remove add) x
    → IsAmong add x ⊎ (IsAmong sets x × (IsKeyOf remove (key_of x) → ⊥))
of_changed sets remove add x there = elim (of_with_all add (without_all remove sets) x there) [
  | inl new ↦ inl new
  | inr old ↦ inr (of_without_all remove sets x old.0)
]

pub changed_rises : (sets : List RecordSet) (remove : List SetKey) (add : List RecordSet)
    → IsRising sets → IsRising (changed sets remove add)
changed_rises sets remove add rising =
    with_all_rises add (without_all remove sets) (without_all_rises remove sets rising)

-- what is allowed is a change
pub is_change : (zones : List Zone) (zone : ℕ) (remove : List SetKey) (add : List RecordSet)
    → IsAllowed zones (Change zone remove add) → IsChange (sets_in zones zone) remove add
is_change zones zone remove add allowed =
    let is = allowed.1 allowed.0.0.apex (allowed.0.0, allowed.0.1, allowed.0.2, refl) in
    record { differ = is.added.differ; new = is.new }

-- ---- groups

module _ (sets : List RecordSet) (remove : List SetKey) (add : List RecordSet)
    (change : IsChange sets remove add) (name : List (List ℕ)) (rtype : RType) where
  pub filled_by_new : (set : RecordSet) → IsAmong add set → is_of_group name rtype set ≡ true
      → group (changed sets remove add) name rtype ≢ []
  filled_by_new set there of_group =
      has_some (group (changed sets remove add) name rtype) set
      (in_filter (is_of_group name rtype) (changed sets remove add) set
      (added_in sets remove add change set there) of_group)

  pub filled_by_kept : (set : RecordSet) → IsAmong (group sets name rtype) set
      → (IsKeyOf remove (key_of set) → ⊥) → group (changed sets remove add) name rtype ≢ []
  filled_by_kept set there stays =
      let is = of_filter (is_of_group name rtype) sets set there in
      has_some (group (changed sets remove add) name rtype) set
      (in_filter (is_of_group name rtype) (changed sets remove add) set
      (kept_in sets remove add change set is.0 stays) is.1)

-- a group that isn't empty has a set that is added, or one that stays
pub filler : (sets : List RecordSet) (remove : List SetKey) (add : List RecordSet)
    (name : List (List ℕ)) (rtype : RType) → group (changed sets remove add) name rtype ≢ []
    → ((set : RecordSet) × IsAmong add set × (is_of_group name rtype set ≡ true))
    ⊎ ((set : RecordSet) × IsAmong (group sets name rtype) set
    × (IsKeyOf remove (key_of set) → ⊥))
filler sets remove add name rtype some =
    let one = not_empty (group (changed sets remove add) name rtype) some in
    let is = of_filter (is_of_group name rtype) (changed sets remove add) one.0 one.1 in
    elim (of_changed sets remove add one.0 is.0) [
      | inl new ↦ inl (one.0, new, is.1)
      | inr old ↦
          inr (one.0, in_filter (is_of_group name rtype) sets one.0 old.0 is.1, old.1)
    ]
