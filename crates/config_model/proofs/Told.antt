-- What the refusals after the last change of a batch say.
use Rattle.std.proofs.Common.{◌≡◌, ℕ, zero, suc, ◌+◌, ◌<◌, ◌≤◌, Bool, true, false, List, [], ◌∷◌}
use Rattle.std.proofs.Common.{length, map, inl, inr, ap, ◌∙◌, sym, refl, subst, arith, Option, None}
use Rattle.std.proofs.Common.{Some}
use Rattle.std.specs.Prelude.{slice_get, ◌↔◌, ◌&&◌, not, ◌||◌, is_some, nat_lt}
use Rattle.std.specs.Str.{bytes_eq}
use Rattle.std.proofs.lemmas.Bool.{false≢true, or_cases, ltb-false, le-ltb}
use Rattle.std.proofs.lemmas.Map.Views.{Contains-from_any}
use Rattle.std.proofs.lemmas.Slice.Eq.{bytes_eq-Decides}
use Rattle.check_model.specs.Checks.{IsId, check_with}
use Rattle.check_model.specs.Commands.{is_there}
use Rattle.check_model.specs.declared.checks.Check.{Check}
use Rattle.command_octets.specs.Idents.{star}
use Rattle.command_octets.specs.Places.{names_of}
use Rattle.command_octets.specs.CollectionRecord.{Collection}
use Rattle.command_octets.specs.Kept.{IsThere, IsThereIn}
use Rattle.command_octets.specs.Stored.{collection_with}
use Rattle.set_reading.specs.Reasons.{IsAlias}
use Rattle.set_reading.specs.SetsOfRecordSet.{key_of}
use Rattle.set_reading.specs.RoutingRecord.{Routing}
use Rattle.set_reading.specs.RoutingRecord.TheVariants.{Simple, Weighted, Failover}
use Rattle.set_reading.specs.RoutingRecord.TheVariants.{Geolocation, Latency, Multivalue}
use Rattle.set_reading.specs.RoutingRecord.TheVariants.{Cidr}
use Rattle.set_reading.specs.BodyRecord.{Body}
use Rattle.set_reading.specs.BodyRecord.TheVariants as body
use Rattle.set_reading.specs.RecordSetRecord.{RecordSet}
use Rattle.command_octets.specs.Walks.{HasNoTarget, IsTooDeep, IsWalk, StartsWalk}
use Rattle.command_octets.specs.Zones.{IsAmong, is_of_group, target_group, target_group_of}
use Rattle.config_model.specs.Batches.{check_refusal, collection_refusal, depth_refusal}
use Rattle.config_model.specs.Batches.{first_among, is_alias, is_empty, is_location_in, is_too_deep}
use Rattle.config_model.specs.Batches.{is_zone_full, leads_on, location_refusal, named_check}
use Rattle.config_model.specs.Batches.{named_collection, named_location, sets_refusal}
use Rattle.config_model.specs.Batches.{target_refusal}
use Rattle.config_model.specs.Telling.{first_of, refuse_if}
use Rattle.config_model.specs.Told.{AreInOrder, FirstOrNone}
use Rattle.config_model.specs.declared.refusals.Refusal.{Refusal}
use Rattle.config_model.specs.declared.refusals.Refusal.TheVariants.{NoSuchHealthCheck}
use Rattle.config_model.specs.declared.refusals.Refusal.TheVariants.{NoSuchCidrCollection}
use Rattle.config_model.specs.declared.refusals.Refusal.TheVariants.{NoSuchCidrLocation}
use Rattle.config_model.specs.declared.refusals.Refusal.TheVariants.{AliasTargetMissing}
use Rattle.config_model.specs.declared.refusals.Refusal.TheVariants.{AliasTooDeep, ZoneFull}
use Rattle.config_model.proofs.Members.{among_of, any_from, any_of, kept_among, or_true}

-- ---- the first set that is refused

module _ (refuses : RecordSet → Option Refusal) where
  later : (x : RecordSet) (xs : List RecordSet) → refuses x ≡ None → (found : Option Refusal)
      → FirstOrNone refuses xs found → FirstOrNone refuses (x ∷ xs) found
  later x xs none None rest = each
    where
      each : (set : RecordSet) → IsAmong (x ∷ xs) set → refuses set ≡ None
      each set (inl e) = subst (λ s. refuses s ≡ None) e none
      each set (inr there) = rest set there
  later x xs none (Some why) found = record {
    at = suc found.at;
    set = found.set;
    there = found.there;
    refused = found.refused;
    first = before;
  }
    where
      before : (i : ℕ) (other : RecordSet) → i < suc found.at
          → slice_get (x ∷ xs) i ≡ Some other → refuses other ≡ None
      before zero other lt e = subst (λ s. refuses s ≡ None) (grind (arith, e)) none
      before (suc i) other lt e = found.first i other (omega (arith, lt)) e

  step : (x : RecordSet) (xs : List RecordSet) (told : Option Refusal) → refuses x ≡ told
      → FirstOrNone refuses xs (first_of (map refuses xs))
      → FirstOrNone refuses (x ∷ xs) (first_of (told ∷ map refuses xs))
  step x xs None e rest = later x xs e (first_of (map refuses xs)) rest
  step x xs (Some why) e rest = record {
    at = 0;
    set = x;
    there = refl;
    refused = e;
    first = λ i other lt at. absurd (omega (arith, lt));
  }

  pub first_told : (sets : List RecordSet) → FirstOrNone refuses sets (first_among refuses sets)
  first_told [] = λ set there. absurd there
  first_told (x ∷ xs) = step x xs (refuses x) refl (first_told xs)

  pub none_among : (sets : List RecordSet) → first_among refuses sets ≡ None
      → (set : RecordSet) → IsAmong sets set → refuses set ≡ None
  none_among sets e = subst (λ found. FirstOrNone refuses sets found) e (first_told sets)

  pub none_of_all : (sets : List RecordSet)
      → ((set : RecordSet) → IsAmong sets set → refuses set ≡ None)
      → first_among refuses sets ≡ None
  none_of_all [] each = refl
  none_of_all (x ∷ xs) each =
      ap (λ told. first_of (told ∷ map refuses xs)) (each x (inl refl))
      ∙ none_of_all xs (λ set there. each set (inr there))

-- ---- walks

alias_of : (b : Body) → is_alias b ≡ true → IsAlias b
alias_of (body.Values ttl values) e = absurd (false≢true e)
alias_of (body.Alias target evaluate) e = tt

of_alias : (b : Body) → IsAlias b → is_alias b ≡ true
of_alias (body.Values ttl values) is = absurd is
of_alias (body.Alias target evaluate) is = refl

module _ (zone : List RecordSet) where
  target_among : (set next : RecordSet) → IsAmong (target_group zone set) next → IsAmong zone next
  target_among set next there = by set.body there
    where
      by : (b : Body) → IsAmong (target_group_of zone set.rtype b) next → IsAmong zone next
      by (body.Values ttl values) there = absurd there
      by (body.Alias target evaluate) there =
          kept_among (is_of_group target set.rtype) zone next there

  leading_alias : (set next : RecordSet) → IsAmong (target_group zone set) next → IsAlias set.body
  leading_alias set next there = by set.body there
    where
      by : (b : Body) → IsAmong (target_group_of zone set.rtype b) next → IsAlias b
      by (body.Values ttl values) there = absurd there
      by (body.Alias target evaluate) there = tt

  walk_of : (times : ℕ) (set : RecordSet) → IsAmong zone set → leads_on times zone set ≡ true
      → StartsWalk zone set (times + 1)
  walk_of zero set there e = ([], (there, alias_of set.body e), refl)
  walk_of (suc times) set there e =
      let next = any_from (leads_on times zone) (target_group zone set) e in
      let walk = walk_of times next.0 (target_among set next.0 next.1) next.2 in (
        next.0 ∷ walk.0,
        (there, leading_alias set next.0 next.1, next.1, walk.1),
        let size = walk.2 in omega (arith, size),
      )

  of_walk : (times : ℕ) (set : RecordSet) (walk : List RecordSet) → IsWalk zone (set ∷ walk)
      → length walk + 1 ≡ times + 1 → leads_on times zone set ≡ true
  of_walk zero set [] w e = of_alias set.body w.1
  of_walk zero set (next ∷ walk) w e = absurd (omega (arith, e))
  of_walk (suc times) set [] w e = absurd (omega (arith, e))
  of_walk (suc times) set (next ∷ walk) w e =
      any_of (leads_on times zone) (target_group zone set) next w.2
      (of_walk times next walk w.3 (omega (arith, e)))

pub walks_told : (times : ℕ) (zone : List RecordSet) (set : RecordSet) → IsAmong zone set
    → (leads_on times zone set ≡ true) ↔ StartsWalk zone set (times + 1)
walks_told times zone set there =
    (walk_of zone times set there, λ w. of_walk zone times set w.0 w.1 w.2)

-- ---- what is there

pub told_not : (b : Bool) (why : Refusal) → refuse_if (not b) why ≡ None → b ≡ true
told_not true why e = refl
told_not false why e = absurd (grind (arith, e))

not_told : (b : Bool) (why : Refusal) → b ≡ true → refuse_if (not b) why ≡ None
not_told b why e = ap (λ c. refuse_if (not c) why) e

module _ (checks : List (ℕ × Check)) where
  check_by : (found : Option Check) (id : ℕ) → check_with checks id ≡ found → is_some found ≡ true
      → IsId checks id
  check_by None id at e = absurd (false≢true e)
  check_by (Some check) id at e = (check, at)

  check_there : (set : RecordSet) (id : ℕ) → check_refusal checks set ≡ None
      → set.check ≡ Some id → IsId checks id
  check_there set id none e =
      let told : named_check checks (Some id) ≡ None =
      subst (λ c. named_check checks c ≡ None) e none in
      check_by (check_with checks id) id refl
      (told_not (is_there checks id) (NoSuchHealthCheck id) told)

  no_check_refused : (set : RecordSet)
      → ((id : ℕ) → set.check ≡ Some id → IsId checks id) → check_refusal checks set ≡ None
  no_check_refused set there = by set.check refl
    where
      by : (named : Option ℕ) → set.check ≡ named → named_check checks named ≡ None
      by None e = refl
      by (Some id) e =
          let is = there id e in
          not_told (is_there checks id) (NoSuchHealthCheck id) (ap is_some is.1)

module _ (list : List (ℕ × Collection)) where
  some_by : (found : Option Collection) → is_some found ≡ true
      → (location : List ℕ) → bytes_eq location star || is_location_in found location ≡ true
      → IsThereIn found location
  some_by None e location placed = absurd (false≢true e)
  some_by (Some collection) e location placed =
      elim (or_cases (bytes_eq location star) (is_location_in (Some collection) location) placed) [
        | inl is_star ↦ inl ((bytes_eq-Decides location star).0 is_star)
        | inr there ↦
            inr (Contains-from_any (λ x y same. (bytes_eq-Decides x y).0 same) location
            (names_of collection.locations) there)
      ]

  place_there : (set : RecordSet) (ident : List ℕ) (id : ℕ) (location : List ℕ)
      → collection_refusal list set ≡ None → location_refusal list set ≡ None
      → set.routing ≡ Cidr ident id location → IsThere list (id, location)
  place_there set ident id location none also e =
      let told : named_collection list (Cidr ident id location) ≡ None =
      subst (λ r. named_collection list r ≡ None) e none in
      let also_told : named_location list (Cidr ident id location) ≡ None =
      subst (λ r. named_location list r ≡ None) e also in
      some_by (collection_with id list)
      (told_not (is_some (collection_with id list)) (NoSuchCidrCollection id) told)
      location
      (told_not (bytes_eq location star || is_location_in (collection_with id list) location)
      (NoSuchCidrLocation location) also_told)

  -- whatever names it
  abbrev NamesPlaces : Routing → Type 0
  NamesPlaces r = (ident : List ℕ) (id : ℕ) (location : List ℕ) → r ≡ Cidr ident id location
      → IsThere list (id, location)

  some_there : (found : Option Collection) (location : List ℕ) → IsThereIn found location
      → is_some found ≡ true
  some_there None location there = absurd there
  some_there (Some collection) location there = refl

  placed_there : (found : Option Collection) (location : List ℕ) → IsThereIn found location
      → bytes_eq location star || is_location_in found location ≡ true
  placed_there None location there = absurd there
  placed_there (Some collection) location (inl is_star) =
      ap (λ b. b || is_location_in (Some collection) location)
      ((bytes_eq-Decides location star).1 is_star)
  placed_there (Some collection) location (inr there) =
      ap (λ b. bytes_eq location star || b)
      (any_of (bytes_eq location) (names_of collection.locations) location
      (among_of (names_of collection.locations) location there)
      ((bytes_eq-Decides location location).1 refl))
      ∙ or_true (bytes_eq location star)

  no_collection_refused : (r : Routing) → NamesPlaces r → named_collection list r ≡ None
  no_collection_refused Simple there = refl
  no_collection_refused (Weighted ident weight) there = refl
  no_collection_refused (Failover ident role) there = refl
  no_collection_refused (Geolocation ident place) there = refl
  no_collection_refused (Latency ident region) there = refl
  no_collection_refused (Multivalue ident) there = refl
  no_collection_refused (Cidr ident id location) there =
      not_told (is_some (collection_with id list)) (NoSuchCidrCollection id)
      (some_there (collection_with id list) location (there ident id location refl))

  no_location_refused : (r : Routing) → NamesPlaces r → named_location list r ≡ None
  no_location_refused Simple there = refl
  no_location_refused (Weighted ident weight) there = refl
  no_location_refused (Failover ident role) there = refl
  no_location_refused (Geolocation ident place) there = refl
  no_location_refused (Latency ident region) there = refl
  no_location_refused (Multivalue ident) there = refl
  no_location_refused (Cidr ident id location) there =
      not_told (bytes_eq location star || is_location_in (collection_with id list) location)
      (NoSuchCidrLocation location)
      (placed_there (collection_with id list) location (there ident id location refl))

-- ---- targets and depth

pub told_false : (b : Bool) (why : Refusal) → refuse_if b why ≡ None → b ≡ false
told_false true why e = absurd (grind (arith, e))
told_false false why e = refl

empty_of : (sets : List RecordSet) → sets ≡ [] → is_empty sets ≡ true
empty_of sets e = ap is_empty e

of_empty : (sets : List RecordSet) → is_empty sets ≡ true → sets ≡ []
of_empty [] e = refl
of_empty (set ∷ sets) e = absurd (false≢true e)

too_deep_is : (zone : List RecordSet) (set : RecordSet)
    → is_too_deep zone set ≡ leads_on 16 zone set
unfolding is_too_deep
too_deep_is zone set = refl

module _ (zone : List RecordSet) where
  has_target : (set : RecordSet) → target_refusal zone set ≡ None → HasNoTarget zone set → ⊥
  has_target set none (alias, empty) =
      let is = told_false (is_alias set.body && is_empty (target_group zone set))
      (AliasTargetMissing (key_of set)) none in
      false≢true (sym is ∙ both (of_alias set.body alias) (empty_of (target_group zone set) empty))
    where
      both : {a b : Bool} → a ≡ true → b ≡ true → (a && b) ≡ true
      both {a} {b} x y = ap (λ c. c && b) x ∙ y

  no_target_refused : (set : RecordSet) → (HasNoTarget zone set → ⊥)
      → target_refusal zone set ≡ None
  no_target_refused set has =
      by (is_alias set.body) (is_empty (target_group zone set)) refl refl
    where
      by : (alias empty : Bool) → is_alias set.body ≡ alias
          → is_empty (target_group zone set) ≡ empty
          → refuse_if (alias && empty) (AliasTargetMissing (key_of set)) ≡ None
      by false empty a e = refl
      by true false a e = refl
      by true true a e = absurd (has (alias_of set.body a, of_empty (target_group zone set) e))

  not_deep : (set : RecordSet) → IsAmong zone set → depth_refusal zone set ≡ None
      → IsTooDeep zone set → ⊥
  not_deep set there none deep =
      false≢true (sym (told_false (is_too_deep zone set) (AliasTooDeep (key_of set)) none)
      ∙ deep_by (is_too_deep zone set) (too_deep_is zone set) deep)
    where
      deep_by : (b : Bool) → b ≡ leads_on 16 zone set → IsTooDeep zone set → b ≡ true
      deep_by b e deep = e ∙ of_walk zone 16 set deep.0 deep.1 deep.2

  no_depth_refused : (set : RecordSet) → IsAmong zone set → (IsTooDeep zone set → ⊥)
      → depth_refusal zone set ≡ None
  no_depth_refused set there shallow = by (is_too_deep zone set) (too_deep_is zone set)
    where
      by : (b : Bool) → b ≡ leads_on 16 zone set → refuse_if b (AliasTooDeep (key_of set)) ≡ None
      by false e = refl
      by true e = absurd (shallow (walk_of zone 16 set there (sym e)))

-- ---- all of them

pub parts : (a b c d e f : Option Refusal)
    → first_of (a ∷ b ∷ c ∷ d ∷ e ∷ f ∷ []) ≡ None
    → (a ≡ None) × (b ≡ None) × (c ≡ None) × (d ≡ None) × (e ≡ None) × (f ≡ None)
parts None None None None None None h = (refl, refl, refl, refl, refl, refl)
parts (Some x) b c d e f h = absurd (grind (arith, h))
parts None (Some x) c d e f h = absurd (grind (arith, h))
parts None None (Some x) d e f h = absurd (grind (arith, h))
parts None None None (Some x) e f h = absurd (grind (arith, h))
parts None None None None (Some x) f h = absurd (grind (arith, h))
parts None None None None None (Some x) h = absurd (grind (arith, h))

whole : (a b c d e f : Option Refusal) → a ≡ None → b ≡ None → c ≡ None → d ≡ None → e ≡ None
    → f ≡ None → first_of (a ∷ b ∷ c ∷ d ∷ e ∷ f ∷ []) ≡ None
whole None None None None None None h i j k l m = refl
whole (Some x) b c d e f h i j k l m = absurd (grind (arith, h))
whole None (Some x) c d e f h i j k l m = absurd (grind (arith, i))
whole None None (Some x) d e f h i j k l m = absurd (grind (arith, j))
whole None None None (Some x) e f h i j k l m = absurd (grind (arith, k))
whole None None None None (Some x) f h i j k l m = absurd (grind (arith, l))
whole None None None None None (Some x) h i j k l m = absurd (grind (arith, m))

not_full : (zone : List RecordSet) → refuse_if (is_zone_full zone) ZoneFull ≡ None → length zone ≤ 10000
not_full zone e = ltb-false 10000 (length zone) (told_false (is_zone_full zone) ZoneFull e)

full_not : (n : ℕ) → n ≤ 10000 → refuse_if (nat_lt 10000 n) ZoneFull ≡ None
full_not n few = ap (λ b. refuse_if b ZoneFull) (le-ltb 10000 n few)

module _ (checks : List (ℕ × Check)) (collections : List (ℕ × Collection)) (zone : List RecordSet)
  where
    pub in_order : sets_refusal checks collections zone ≡ None → AreInOrder checks collections zone
    in_order e =
        let all = parts (first_among (check_refusal checks) zone)
        (first_among (collection_refusal collections) zone)
        (first_among (location_refusal collections) zone)
        (first_among (target_refusal zone) zone)
        (first_among (depth_refusal zone) zone)
        (refuse_if (is_zone_full zone) ZoneFull) e in
        record {
          checks_there = λ set id there named.
              check_there checks set id
              (none_among (check_refusal checks) zone all.0 set there) named;
          places_there = λ set ident id location there named.
              place_there collections set ident id location
              (none_among (collection_refusal collections) zone all.1 set there)
              (none_among (location_refusal collections) zone all.2 set there) named;
          targets_there = λ set there.
              has_target zone set (none_among (target_refusal zone) zone all.3 set there);
          not_too_deep = λ set there.
              not_deep zone set there (none_among (depth_refusal zone) zone all.4 set there);
          few = not_full zone all.5;
        }

    pub from_order : AreInOrder checks collections zone
        → sets_refusal checks collections zone ≡ None
    from_order o = whole (first_among (check_refusal checks) zone)
        (first_among (collection_refusal collections) zone)
        (first_among (location_refusal collections) zone)
        (first_among (target_refusal zone) zone)
        (first_among (depth_refusal zone) zone)
        (refuse_if (is_zone_full zone) ZoneFull)
        (none_of_all (check_refusal checks) zone
        (λ set there. no_check_refused checks set (λ id. o.checks_there set id there)))
        (none_of_all (collection_refusal collections) zone
        (λ set there. no_collection_refused collections set.routing
        (λ ident id location. o.places_there set ident id location there)))
        (none_of_all (location_refusal collections) zone
        (λ set there. no_location_refused collections set.routing
        (λ ident id location. o.places_there set ident id location there)))
        (none_of_all (target_refusal zone) zone
        (λ set there. no_target_refused zone set (o.targets_there set there)))
        (none_of_all (depth_refusal zone) zone
        (λ set there. no_depth_refused zone set there (o.not_too_deep set there)))
        (full_not (length zone) o.few)
