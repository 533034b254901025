-- The place of a name, and the sets beside it.
use Rattle.std.proofs.Common.{◌≡◌, ◌≢◌, ◌<◌, ◌-◌, ℕ, Bool, true, false, List, [], ◌∷◌}
use Rattle.std.proofs.Common.{Option, Some, None, length, refl, sym, ap, ◌∙◌, subst, arith, inl, inr}
use Rattle.std.proofs.Common.{Less, Equal, Greater, ◌++◌, append_assoc}
use Rattle.std.specs.Prelude.{cond, ◌==◌, ◌⊎◌, ◌↔◌}
use Rattle.std.specs.List.{AllByRecursion}
use Rattle.std.specs.Ordering.{is_lt, nat_cmp, ordering_then}
use Rattle.std.specs.declared.cmp.Ordering.{Ordering}
use Rattle.std.proofs.lemmas.Option.{slice_get_cases, slice_get_within}
use Rattle.dns_name.specs.Order.{zone_cmp}
use Rattle.dns_name.specs.Suffix.{EndsWith}
use Rattle.rdata_layout.specs.Types.{number_of}
use Rattle.rdata_layout.specs.declared.types.RType.{RType}
use Rattle.rdata_layout.specs.declared.types.RType.TheVariants as rtype
use Rattle.policy_select.specs.Sets.{ident_of}
use Rattle.policy_select.specs.RecordSetRecord.{RecordSet}
use Rattle.policy_select.proofs.Below.{beside, ends_itself, exists_at, first_tells, no_longer}
use Rattle.policy_select.proofs.Below.{none_exists}
use Rattle.policy_select.specs.FoundOfSetSearch.{IsBelowAt, IsCount, IsFirstNamed}
use Rattle.policy_select.specs.BoundRecord.TheVariants as bound
use Rattle.policy_select.specs.Zones.{StandsAlone, Zone, placed_in}
use Rattle.policy_select.proofs.ListsOfZoneModel.{some_one}
use Rattle.policy_select.specs.Existing.{Exists}
use Rattle.policy_select.specs.Keys.{ident_cmp}
use Rattle.policy_select.specs.Slotted.{sets_of}
use Rattle.policy_select.specs.ZonesOfZoneModel.{IsRising}
use Rattle.policy_select.specs.Groups.{sets_in_zone}
use Rattle.zone_lookup.specs.Standing.{AreBeside, IsNearest, IsUnder, NamedAt, NamedBefore}
use Rattle.zone_lookup.specs.Standing.{SomeExists}

-- the sets of a zone stand in its order
pub sets_rise : (zones : List Zone) → AllByRecursion StandsAlone zones → (id : ℕ)
    → IsRising (sets_in_zone zones id)
sets_rise [] each id = tt
sets_rise (zone ∷ zones) each id = by (sets_rise zones each.1 id) (zone.id == id)
  where
    by : IsRising (sets_in_zone zones id) → (b : Bool)
        → IsRising (sets_of (cond b zone.placed (placed_in zones id)))
    by rest true = each.0.sets.rising
    by rest false = rest

-- ---- the first set that isn't before the name's sets of type A

-- no type is lower than A, and a set without an identifier comes first
type_up : (t : RType) → is_lt (nat_cmp (number_of t) 1) ≡ false
type_up rtype.A = refl
type_up rtype.Ns = refl
type_up rtype.Cname = refl
type_up rtype.Soa = refl
type_up rtype.Ptr = refl
type_up rtype.Mx = refl
type_up rtype.Txt = refl
type_up rtype.Aaaa = refl
type_up rtype.Srv = refl
type_up rtype.Spf = refl
type_up rtype.Caa = refl

ident_up : (ident : Option (List ℕ)) → is_lt (ident_cmp ident None) ≡ false
ident_up None = refl
ident_up (Some ident) = refl

low : (o t i : Ordering) → is_lt t ≡ false → is_lt i ≡ false
    → is_lt (ordering_then (ordering_then o t) i) ≡ true → o ≡ Less
low Less t i nor nor_too e = refl
low Equal Less i nor nor_too e = absurd (grind (arith, nor))
low Equal Equal i nor nor_too e = absurd (grind (arith, nor_too, e))
low Equal Greater i nor nor_too e = absurd (grind (arith, e))
low Greater t i nor nor_too e = absurd (grind (arith, e))

high : (o t i : Ordering) → is_lt (ordering_then (ordering_then o t) i) ≡ false → o ≢ Less
high Less t i e = absurd (grind (arith, e))
high Equal t i e = λ less. absurd (grind (arith, less))
high Greater t i e = λ less. absurd (grind (arith, less))

pub first_named : (sets : List RecordSet) (name : List (List ℕ)) (n : ℕ)
    → IsCount sets (bound.From (record { name = name; rtype = rtype.A; ident = None })) n
    → IsFirstNamed sets name n
first_named sets name n is = record {
  within = is.within;
  before = λ k x lt there. low (zone_cmp x.name name) (nat_cmp (number_of x.rtype) 1)
      (ident_cmp (ident_of x.routing) None) (type_up x.rtype) (ident_up (ident_of x.routing))
      (is.before k x lt there);
  behind = λ k x le there. high (zone_cmp x.name name) (nat_cmp (number_of x.rtype) 1)
      (ident_cmp (ident_of x.routing) None) (is.behind k x le there);
}

-- ---- the names of the sets beside the place

under_at : (sets : List RecordSet) (k : ℕ) (found : Option (List (List ℕ))) → NamedAt sets k found
    → (at : List (List ℕ)) → IsBelowAt sets at k → IsUnder found at
under_at sets k None none at (set, there, ends) =
    (let inside = slice_get_within sets k set there in absurd (omega (arith, none, inside)))
under_at sets k (Some name) (other, there_too, same) at (set, there, ends) =
    subst (λ (n : List (List ℕ)). EndsWith n at)
    (ap (λ (s : RecordSet). s.name) (some_one set other (sym there ∙ there_too)) ∙ same) ends

pub exists_under : (sets : List RecordSet) (k : ℕ) (found : Option (List (List ℕ)))
    → NamedAt sets k found → (at : List (List ℕ)) → IsUnder found at → Exists sets at
exists_under sets k None none at under = absurd under
exists_under sets k (Some name) (set, there, same) at under =
    exists_at sets at k (
      set,
      there,
      subst (λ (n : List (List ℕ)). EndsWith n at) (sym same) under,
    )

-- a name exists exactly where the set at its place has it or a name below it
pub first_below : (sets : List RecordSet) (name : List (List ℕ)) (n : ℕ) → IsRising sets
    → IsFirstNamed sets name n → IsBelowAt sets name n ↔ Exists sets name
first_below sets name n rising first = (exists_at sets name n, back)
  where
    back : Exists sets name → IsBelowAt sets name n
    back there = elim (slice_get_cases sets n).1 [
      | inl x ↦ (
        x.0,
        x.2,
        (first_tells sets name n rising first x.0 x.2).1 there,
      )
      | inr past ↦ absurd (none_exists sets name n rising first past.0 there)
    ]

as_named : (sets : List RecordSet) (n : ℕ) (found : Option (List (List ℕ))) → 0 < n
    → NamedBefore sets n found → NamedAt sets (n - 1) found
as_named sets n None some before = before some
as_named sets n (Some name) some before = before.1

pub are_beside : (sets : List RecordSet) (name : List (List ℕ)) (n : ℕ)
    (before behind : Option (List (List ℕ))) → IsRising sets → IsFirstNamed sets name n
    → NamedBefore sets n before → NamedAt sets n behind → AreBeside sets name before behind
are_beside sets name n before behind rising first named named_too = record {
  told = λ at ends there. elim (beside sets at name n rising first ends there) [
    | inl x ↦ inl (under_at sets (n - 1) before (as_named sets n before x.0 named) at x.1)
    | inr x ↦ inr (under_at sets n behind named_too at x)
  ];
  under_before = λ at under. so before named at under;
  under_behind = λ at under. exists_under sets n behind named_too at under;
}
  where
    so : (found : Option (List (List ℕ))) → NamedBefore sets n found → (at : List (List ℕ))
        → IsUnder found at → Exists sets at
    so None none at under = absurd under
    so (Some other) told at under = exists_under sets (n - 1) (Some other) told.1 at under

-- ---- the walk up to the longest that exists

-- Those at or above the name that one of the two is under are at or above the one that is looked
-- at.
abbrev pub AreAbove : (name : List (List ℕ)) → (before behind : Option (List (List ℕ)))
    → (at : List (List ℕ)) → Type 0
AreAbove name before behind at = (other : List (List ℕ)) → EndsWith name other
    → IsUnder before other ⊎ IsUnder behind other → EndsWith at other

pub record Walks (name : List (List ℕ)) (before behind : Option (List (List ℕ)))
    (at : List (List ℕ)) : Type 0 where
  pub above : EndsWith name at
  pub others : AreAbove name before behind at

module _ (name : List (List ℕ)) (before behind : Option (List (List ℕ))) (at : List (List ℕ))
    (walks : Walks name before behind at) where
  pub found_nearest : (sets : List RecordSet) → AreBeside sets name before behind
      → Exists sets at → IsNearest sets name at
  found_nearest sets are there = record {
    above = walks.above;
    exists = there;
    longest = λ other ends exists. no_longer at other
        (walks.others other ends (are.told other ends exists));
  }

  pub further : (label : List ℕ) (parent : List (List ℕ)) → at ≡ label ∷ parent
      → (IsUnder before at → ⊥) → (IsUnder behind at → ⊥) → Walks name before behind parent
  further label parent e nor nor_too = record {
    above = up name walks.above;
    others = λ other ends under. parent_of other (walks.others other ends under)
        (λ same. elim (subst (λ (n : List (List ℕ)). IsUnder before n ⊎ IsUnder behind n) same under) [
          | inl x ↦ nor x
          | inr x ↦ nor_too x
        ]);
  }
    where
      up : (n : List (List ℕ)) → EndsWith n at → EndsWith n parent
      up n (first, is) = (
        first ++ label ∷ [],
        is ∙ (ap (λ (m : List (List ℕ)). first ++ m) e
            ∙ sym (append_assoc first (label ∷ []) parent)),
      )

      parent_of : (other : List (List ℕ)) → EndsWith at other → (other ≡ at → ⊥)
          → EndsWith parent other
      parent_of other ([], is) apart = absurd (apart (sym is))
      parent_of other (first ∷ rest, is) apart =
          (rest, (let p : parent ≡ rest ++ other = cc in p))

  -- the root is the last
  pub at_root : (sets : List RecordSet) → AreBeside sets name before behind → SomeExists sets name
      → at ≡ [] → (IsUnder before at → ⊥) → (IsUnder behind at → ⊥) → IsNearest sets name at
  at_root sets are (other, ends, there) root nor nor_too =
      absurd (elim (are.told other ends there) [
        | inl x ↦ nor (subst (IsUnder before) (is_root other ends there) x)
        | inr x ↦ nor_too (subst (IsUnder behind) (is_root other ends there) x)
      ])
    where
      is_root : (other : List (List ℕ)) → EndsWith name other → Exists sets other → other ≡ at
      is_root other ends there =
          by other (walks.others other ends (are.told other ends there))
        where
          by : (other : List (List ℕ)) → EndsWith at other → other ≡ at
          by other is =
              let less = no_longer at other is in
              let none : length at ≡ 0 = ap (λ (n : List (List ℕ)). length n) root in
              empty other (omega (arith, less, none)) ∙ sym root
            where
              empty : (xs : List (List ℕ)) → length xs ≡ 0 → xs ≡ []
              empty [] e = refl
              empty (x ∷ xs) e = absurd (omega (arith, e))

pub walk_begins : (name : List (List ℕ)) (before behind : Option (List (List ℕ)))
    → Walks name before behind name
walk_begins name before behind = record {
  above = ends_itself name;
  others = λ other ends under. ends;
}
