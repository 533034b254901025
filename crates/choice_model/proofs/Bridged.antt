-- What is chosen of a group of one policy.
use Rattle.std.proofs.Common.{◌≡◌, ◌<◌, ℕ, Bool, Option, None, Some, List, [], ◌∷◌, length}
use Rattle.std.proofs.Common.{unwrap_or, option_to_list, arith, refl, ap, ◌∙◌}
use Rattle.cidr_routing.specs.Choice as blocks
use Rattle.failover.specs.Choice as failover
use Rattle.geo_latency.specs.Places as places
use Rattle.geo_latency.specs.Regions as regions
use Rattle.record_set.specs.declared.sets.RecordSet.{RecordSet}
use Rattle.routing.specs.declared.policies.Place.{Place}
use Rattle.routing.specs.declared.policies.Role.{Role}
use Rattle.routing.specs.declared.policies.Routing.{Routing}
use Rattle.routing.specs.declared.policies.Routing.TheVariants as routing
use Rattle.weighted.specs.Choice as weighted
use Rattle.choice_model.specs.Bridges.{SimpleChoice, WeightedChoice, FailoverChoice}
use Rattle.choice_model.specs.Bridges.{GeolocationChoice, LatencyChoice, MultivalueChoice}
use Rattle.choice_model.specs.Bridges.{CidrChoice, PoliciesOfGroups, HasPolicy, EachHasPolicy}
use Rattle.choice_model.specs.Choice.{ClientRows, chosen_by, each}
use Rattle.choice_model.specs.Policies.{weight_of, role_of, place_of, region_of, collection_of}
use Rattle.choice_model.specs.Policies.{location_of}

none_is_none : {X : Type 0} {P : Type 0} (x : X) → None ≡ Some x → P
none_is_none x e = absurd (let no : ⊥ = cc in no)

inside : {X : Type 0} (x y : X) → Some x ≡ Some y → x ≡ y
inside x y e = cc

pub simple : SimpleChoice
simple [] healthy rows word e = none_is_none routing.Simple e
simple (set ∷ sets) healthy rows word e =
    ap (λ r. chosen_by r (set ∷ sets) healthy rows word) (inside set.routing routing.Simple e)

pub multivalue_sets : MultivalueChoice
multivalue_sets [] healthy rows word ident e = none_is_none (routing.Multivalue ident) e
multivalue_sets (set ∷ sets) healthy rows word ident e =
    ap (λ r. chosen_by r (set ∷ sets) healthy rows word)
    (inside set.routing (routing.Multivalue ident) e)

module _ (group : List RecordSet) (healthy : List Bool) (rows : ClientRows) (word : ℕ) where
  by_weight : (r : Routing) (first : ℕ) → weight_of r ≡ Some first
      → chosen_by r group healthy rows word
      ≡ weighted.chosen (each weight_of first group) healthy word ∷ []
  by_weight (routing.Weighted ident weight) first e =
      ap (λ w. weighted.chosen (each weight_of w group) healthy word ∷ []) (inside weight first e)
  by_weight other first e = none_is_none first e

  by_role : (r : Routing) (first : Role) → role_of r ≡ Some first
      → chosen_by r group healthy rows word
      ≡ failover.chosen (each role_of first group) healthy ∷ []
  by_role (routing.Failover ident role) first e =
      ap (λ w. failover.chosen (each role_of w group) healthy ∷ []) (inside role first e)
  by_role other first e = none_is_none first e

  by_place : (r : Routing) (first : Place) → place_of r ≡ Some first
      → chosen_by r group healthy rows word
      ≡ option_to_list (places.chosen (each place_of first group) healthy rows.location)
  by_place (routing.Geolocation ident place) first e =
      ap (λ w. option_to_list (places.chosen (each place_of w group) healthy rows.location))
      (inside place first e)
  by_place other first e = none_is_none first e

  by_region : (r : Routing) (first : List ℕ) → region_of r ≡ Some first
      → chosen_by r group healthy rows word
      ≡ regions.chosen (each region_of first group) healthy rows.latencies ∷ []
  by_region (routing.Latency ident region) first e =
      ap (λ w. regions.chosen (each region_of w group) healthy rows.latencies ∷ [])
      (inside region first e)
  by_region other first e = none_is_none first e

  by_location : (r : Routing) (collection : ℕ) (first : List ℕ) → collection_of r ≡ Some collection
      → location_of r ≡ Some first
      → chosen_by r group healthy rows word
      ≡ option_to_list (blocks.chosen (each location_of first group) healthy
      (rows.block collection))
  by_location (routing.Cidr ident number location) collection first of_collection e =
      ap (λ w. option_to_list (blocks.chosen (each location_of w group) healthy
      (rows.block number))) (inside location first e)
      ∙ ap (λ n. option_to_list (blocks.chosen (each location_of first group) healthy
      (rows.block n))) (inside number collection of_collection)
  by_location other collection first of_collection e = none_is_none first e

pub weighted_sets : WeightedChoice
weighted_sets [] healthy rows word weights (first, says, is) = none_is_none first says
weighted_sets (set ∷ sets) healthy rows word weights (first, says, is) =
    by_weight (set ∷ sets) healthy rows word set.routing first says
    ∙ ap (λ ws. weighted.chosen ws healthy word ∷ []) is

pub failover_sets : FailoverChoice
failover_sets [] healthy rows word roles (first, says, is) = none_is_none first says
failover_sets (set ∷ sets) healthy rows word roles (first, says, is) =
    by_role (set ∷ sets) healthy rows word set.routing first says
    ∙ ap (λ rs. failover.chosen rs healthy ∷ []) is

pub geolocation_sets : GeolocationChoice
geolocation_sets [] healthy rows word all (first, says, is) = none_is_none first says
geolocation_sets (set ∷ sets) healthy rows word all (first, says, is) =
    by_place (set ∷ sets) healthy rows word set.routing first says
    ∙ ap (λ ps. option_to_list (places.chosen ps healthy rows.location)) is

pub latency_sets : LatencyChoice
latency_sets [] healthy rows word all (first, says, is) = none_is_none first says
latency_sets (set ∷ sets) healthy rows word all (first, says, is) =
    by_region (set ∷ sets) healthy rows word set.routing first says
    ∙ ap (λ rs. regions.chosen rs healthy rows.latencies ∷ []) is

pub cidr_sets : CidrChoice
cidr_sets [] healthy rows word all collection (first, says, is) of_collection =
    none_is_none first says
cidr_sets (set ∷ sets) healthy rows word all collection (first, says, is) of_collection =
    by_location (set ∷ sets) healthy rows word set.routing collection first of_collection says
    ∙ ap (λ ls. option_to_list (blocks.chosen ls healthy (rows.block collection))) is

-- where each set has the policy, none counts as the first one does
module _ {X : Type 0} (of : Routing → Option X) where
  head_is : (set : RecordSet) (sets : List RecordSet) (x : X) (xs : List X)
      → EachHasPolicy of (set ∷ sets) (x ∷ xs) → of set.routing ≡ Some x
  head_is set sets x xs e = cc

  tail_is : (set : RecordSet) (sets : List RecordSet) (x : X) (xs : List X)
      → EachHasPolicy of (set ∷ sets) (x ∷ xs) → EachHasPolicy of sets xs
  tail_is set sets x xs e = cc

  values : (first : X) (group : List RecordSet) (xs : List X) → EachHasPolicy of group xs
      → each of first group ≡ xs
  values first [] [] e = refl
  values first [] (x ∷ xs) e = absurd (let no : ⊥ = cc in no)
  values first (set ∷ sets) [] e = absurd (let no : ⊥ = cc in no)
  values first (set ∷ sets) (x ∷ xs) e =
      let here : unwrap_or (of set.routing) first ≡ x =
      ap (λ o. unwrap_or o first) (head_is set sets x xs e) in
      let later = values first sets xs (tail_is set sets x xs e) in
      ap (λ v. v ∷ each of first sets) here ∙ ap (λ l. x ∷ l) later

  enough : (group : List RecordSet) (xs : List X) → 0 < length xs → EachHasPolicy of group xs
      → HasPolicy of group xs
  enough group [] some e = absurd (omega (arith, some))
  enough [] (x ∷ xs) some e = absurd (let no : ⊥ = cc in no)
  enough (set ∷ sets) (x ∷ xs) some e =
      (x, head_is set sets x xs e, values x (set ∷ sets) (x ∷ xs) e)

pub policies : PoliciesOfGroups
policies = record {
  weighted = enough weight_of;
  failover = enough role_of;
  geolocation = enough place_of;
  latency = enough region_of;
  cidr = enough location_of;
}
