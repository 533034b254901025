-- Changes that are carried out leave a location for each set that names one.
use Rattle.std.proofs.Common.{◌≡◌, ◌⊎◌, ℕ, Bool, true, false, cond, List, [], ◌∷◌, length, map, Option, None, Some, Result, Ok, Err, inl, inr, sym, refl, subst}
use Rattle.std.specs.Prelude.{Contains, not, ◌&&◌, ◌||◌, nat_eq, nat_lt, option_map}
use Rattle.std.specs.List.{filter, list_any}
use Rattle.std.specs.Str.{bytes_eq}
use Rattle.std.proofs.lemmas.Bool.{eq-eqb}
use Rattle.std.proofs.lemmas.Slice.Eq.{bytes_eq-Decides}
use Rattle.cidr_changes.specs.declared.faults.CidrFault.{CidrFault}
use Rattle.cidr_changes.specs.declared.faults.CidrFault.TheVariants.{TooManyCidrBlocks, CidrLocationInUse}
use Rattle.cidr_blocks.specs.declared.places.CidrLocation.{CidrLocation}
use Rattle.cidr_blocks.specs.declared.places.Collection.{Collection}
use Rattle.cidr_blocks.specs.Idents.{star}
use Rattle.cidr_blocks.specs.Places.{names_of}
use Rattle.cidr_changes.specs.Changed.{after_changes, finished, is_unplaced, least, unplaced, with_locations}
use Rattle.cidr_changes.specs.Changes.{Rows}
use Rattle.cidr_changes.specs.Gathered.{locations_of}
use Rattle.cidr_changes.specs.Laws.{IsStarOrLocation, KeepPlaced}
use Rattle.cidr_changes.specs.Refusals.{first_of, refuse_if, unless}
use Rattle.cidr_changes.proofs.Fine.{the_ok}
use Rattle.cidr_blocks.proofs.Elements.{first, later, none, which}

abbrev Named : Type 0
Named = ℕ × List ℕ

abbrev name_of : Named → List ℕ
name_of named = named.1

-- a name that is told among others
module _ (name : List ℕ) where
  among_by : (b : Bool) (other : List ℕ) (names : List (List ℕ)) → bytes_eq name other ≡ b
      → (b || list_any (bytes_eq name) names) ≡ true
      → (list_any (bytes_eq name) names ≡ true → Contains names name)
      → Contains (other ∷ names) name
  among_by true other names e any rest =
      let same : name ≡ other = (bytes_eq-Decides name other).0 e in
      subst (Contains (other ∷ names)) (sym same) (first other names)
  among_by false other names e any rest = later other name names (rest any)

  among : (names : List (List ℕ)) → list_any (bytes_eq name) names ≡ true → Contains names name
  among [] any = absurd (let no : ⊥ = cc in no)
  among (other ∷ names) any =
      among_by (bytes_eq name other) other names refl any (among names)

module _ (id : ℕ) (ls : List CidrLocation) where
  module _ (name : List ℕ) where
    by_tests : (own stars there : Bool) → nat_eq id id ≡ own → bytes_eq name star ≡ stars
        → list_any (bytes_eq name) (names_of ls) ≡ there
        → (own && not stars && not there) ≡ false → IsStarOrLocation ls name
    by_tests false stars there e s t told =
        absurd (let f = eq-eqb id id refl in let no : ⊥ = cc in no)
    by_tests true true there e s t told = inl ((bytes_eq-Decides name star).0 s)
    by_tests true false true e s t told = inr (among name (names_of ls) t)
    by_tests true false false e s t told = absurd (let no : ⊥ = cc in no)

    placed : is_unplaced id ls (id, name) ≡ false → IsStarOrLocation ls name
    placed = by_tests (nat_eq id id) (bytes_eq name star)
        (list_any (bytes_eq name) (names_of ls)) refl refl refl

  -- none is left over
  none_by : (b : Bool) (u : Named) (used : List Named) → is_unplaced id ls u ≡ b
      → least (map name_of (cond b (u ∷ filter (is_unplaced id ls) used)
      (filter (is_unplaced id ls) used))) ≡ None
      → (is_unplaced id ls u ≡ false) × (least (unplaced id ls used) ≡ None)
  none_by true u used e left = absurd (let no : ⊥ = cc in no)
  none_by false u used e left = (e, left)

  all_placed : (used : List Named) → least (unplaced id ls used) ≡ None → (name : List ℕ)
      → Contains used (id, name) → IsStarOrLocation ls name
  all_placed [] left name there = absurd (none (id, name) there)
  all_placed (u ∷ used) left name there =
      let apart = none_by (is_unplaced id ls u) u used refl left in
      go apart.0 (all_placed used apart.1 name) (which u (id, name) used there)
    where
      go : is_unplaced id ls u ≡ false → (Contains used (id, name) → IsStarOrLocation ls name)
          → (u ≡ (id, name)) ⊎ Contains used (id, name) → IsStarOrLocation ls name
      go not_left rest (inl e) = placed name (subst (λ n. is_unplaced id ls n ≡ false) e not_left)
      go not_left rest (inr c) = rest c

module _ (collection : Collection) (id : ℕ) (used : List Named) (after : Collection)
    (name : List ℕ) (there : Contains used (id, name)) where
  by_rules : (many : Bool) (left : Option (List ℕ)) (rows : Rows)
      → least (unplaced id (locations_of rows) used) ≡ left
      → unless (first_of (refuse_if many TooManyCidrBlocks ∷ option_map CidrLocationInUse left ∷ []))
      (Ok (record collection { locations = locations_of rows })) ≡ Ok after
      → IsStarOrLocation after.locations name
  by_rules true left rows e ok = absurd (let no : ⊥ = cc in no)
  by_rules false (Some other) rows e ok = absurd (let no : ⊥ = cc in no)
  by_rules false None rows e ok =
      subst (λ (c : Collection). IsStarOrLocation c.locations name)
      (the_ok (record collection { locations = locations_of rows }) after ok)
      (all_placed id (locations_of rows) used e name there)

  by_changes : (result : Result Rows CidrFault) → finished collection id used result ≡ Ok after
      → IsStarOrLocation after.locations name
  by_changes (Err fault) ok = absurd (let no : ⊥ = cc in no)
  by_changes (Ok rows) ok =
      by_rules (nat_lt 1000 (length rows)) (least (unplaced id (locations_of rows) used)) rows refl ok

pub keep_placed : KeepPlaced
keep_placed collection changes id used after ok name there =
    by_changes collection id used after name there
    (after_changes changes (with_locations collection.locations [])) ok
