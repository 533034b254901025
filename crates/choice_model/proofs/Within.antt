-- Chosen sets are sets of the group.
use Rattle.std.proofs.Common.{◌≡◌, ◌<◌, ◌≤◌, ◌+◌, ℕ, Bool, true, false, Option, None, Some, List}
use Rattle.std.proofs.Common.{[], ◌∷◌, ◌++◌, length, map, get_or, slice_get, option_to_list}
use Rattle.std.proofs.Common.{if◌then◌else◌, arith, refl, inl, inr}
use Rattle.std.proofs.lemmas.List.{length-map}
use Rattle.std.specs.List.{All}
use Rattle.std.specs.Prelude.{slice_index}
use Rattle.std.proofs.lemmas.List.Elements.{All-append, All-filter, All-cons, All-nil}
use Rattle.std.proofs.lemmas.List.Elements.{All-from_get_or}
use Rattle.std.proofs.lemmas.Option.{slice_get_within}
use Rattle.considered_sets.specs.Considered.{IsConsidered, considered, places, places_from}
use Rattle.considered_sets.specs.Considered.{some_healthy}
use Rattle.considered_sets.specs.Healthy.{healthy_of}
use Rattle.cidr_routing.specs.Choice as blocks
use Rattle.failover.specs.Choice as failover
use Rattle.geo_latency.specs.Places as by_place
use Rattle.geo_latency.specs.Regions as by_region
use Rattle.geo_latency.specs.declared.location.Location.{Location}
use Rattle.multivalue.specs.Choice as multivalue
use Rattle.multivalue.proofs.Eight.{eight}
use Rattle.record_set.specs.declared.sets.RecordSet.{RecordSet}
use Rattle.routing.specs.declared.policies.Place.{Place}
use Rattle.routing.specs.declared.policies.Role.{Role}
use Rattle.routing.specs.declared.policies.Routing.{Routing}
use Rattle.routing.specs.declared.policies.Routing.TheVariants as routing
use Rattle.weighted.specs.Choice as weighted
use Rattle.weighted.proofs.Fair.{fair}
use Rattle.considered_sets.proofs.Places.{some_considered}
use Rattle.choice_model.specs.Choice.{ClientRows, chosen_by, each}
use Rattle.choice_model.specs.Laws.{ChosenOfGroup, ChosenAreOfGroup, IsForEachClient, SomeIsChosen}
use Rattle.choice_model.specs.Policies.{weight_of, role_of, place_of, region_of, location_of}

-- all of these places are below n
abbrev Below : ℕ → List ℕ → Type 0
Below n sets = All (λ set. set < n) sets

module _ (n : ℕ) where
  below_from : (at : ℕ) (hs : List Bool) → at + length hs ≤ n → Below n (places_from at hs)
  below_from at [] le = All-nil (λ set. set < n)
  below_from at (true ∷ hs) le =
      All-cons (λ set. set < n) at (places_from (at + 1) hs) (omega arith)
      (below_from (at + 1) hs (omega arith))
  below_from at (false ∷ hs) le = below_from (at + 1) hs (omega arith)

  -- the first of some places, or 0 where there is none
  first_below : (sets : List ℕ) → 0 < n → Below n sets → slice_index sets 0 < n
  first_below [] some below = some
  first_below (set ∷ sets) some below = below 0 0 (omega arith)

  some_below : (sets : List ℕ) → Below n sets → Below n (option_to_list (slice_get sets 0))
  some_below [] below = All-nil (λ set. set < n)
  some_below (set ∷ sets) below =
      All-cons (λ set. set < n) set [] (below 0 0 (omega arith)) (All-nil (λ set. set < n))

  one_below : (set : ℕ) → set < n → Below n (set ∷ [])
  one_below set lt = All-cons (λ set. set < n) set [] lt (All-nil (λ set. set < n))

  -- the healthy ones, and then all
  healthy_below : (healthy : List Bool) (sets : List ℕ) → Below n sets
      → Below n (healthy_of healthy sets ++ sets)
  healthy_below healthy sets below =
      All-append (λ set. set < n) (healthy_of healthy sets) sets
      (All-filter (λ set. get_or healthy set false) (λ set. set < n) sets below) below

few_of_one : (o : Option ℕ) → length (option_to_list o) ≤ 8
few_of_one None = omega arith
few_of_one (Some set) = omega arith

length_each : {X : Type 0} (of : Routing → Option X) (first : X) (group : List RecordSet)
    → length (each of first group) ≡ length group
length_each of first group = length-map group _

considered_below : (hs : List Bool) (set : ℕ) → IsConsidered hs set → set < length hs
considered_below hs set (inl e) = slice_get_within hs set true e
considered_below hs set (inr (lt, none)) = lt

length_considered : (hs : List Bool) → length (considered hs) ≡ length hs
length_considered hs = go (some_healthy hs) where
  go : (s : Bool) → length (if s then hs else map (λ h. true) hs) ≡ length hs
  go true = refl
  go false = length-map hs _

-- the sets that pass a test, of as many as n
module _ (n : ℕ) where
  passing_below : {X : Type 0} (test : X → Bool) (xs : List X) → length xs ≡ n
      → Below n (places_from 0 (map test xs))
  passing_below test xs e = below_from n 0 (map test xs) (omega (arith, length-map xs test, e))

  both_below : (sets others : List ℕ) → Below n sets → Below n others → Below n (sets ++ others)
  both_below sets others = All-append (λ set. set < n) sets others

  roles_below : (roles : List Role) → length roles ≡ n → Below n (failover.in_order roles)
  roles_below roles e = both_below _ _ (passing_below _ roles e) (passing_below _ roles e)

  places_below : (client : Option Location) (sets : List Place) → length sets ≡ n
      → Below n (by_place.in_order client sets)
  places_below client sets e =
      both_below _ _ (passing_below _ sets e)
      (both_below _ _ (passing_below _ sets e)
      (both_below _ _ (passing_below _ sets e) (passing_below _ sets e)))

  blocks_below : (client : Option (List ℕ)) (locations : List (List ℕ)) → length locations ≡ n
      → Below n (blocks.in_order client locations)
  blocks_below None locations e = passing_below _ locations e
  blocks_below (Some client) locations e =
      both_below _ _ (passing_below _ locations e) (passing_below _ locations e)

module _ (group : List RecordSet) (healthy : List Bool) (rows : ClientRows) (word : ℕ)
    (some : 0 < length group) (is : length healthy ≡ length group) where
  one : (set : ℕ) → set < length group → ChosenOfGroup group (set ∷ [])
  one set lt = record { within = one_below (length group) set lt; few = omega arith }

  of_option : (o : Option ℕ) → Below (length group) (option_to_list o)
      → ChosenOfGroup group (option_to_list o)
  of_option o below = record { within = below; few = few_of_one o }

  weighted_within : (weights : List ℕ) → weighted.chosen weights healthy word < length group
  weighted_within weights =
      let lt = considered_below healthy (weighted.chosen weights healthy word)
      (fair.no_other weights healthy word (omega (arith, is, some))) in
      omega (arith, is, lt)

  failover_within : (roles : List Role) → length roles ≡ length group
      → failover.chosen roles healthy < length group
  failover_within roles e =
      first_below (length group) _ some
      (healthy_below (length group) healthy (failover.in_order roles)
      (roles_below (length group) roles e))

  latency_within : (sets : List (List ℕ))
      → by_region.chosen sets healthy rows.latencies < length group
  latency_within sets =
      first_below (length group) (by_region.first_of rows.latencies sets (places healthy)) some
      (All-filter _ (λ set. set < length group) (places healthy)
      (below_from (length group) 0 (considered healthy)
      (omega (arith, length_considered healthy, is))))

  places_within : (sets : List Place) → length sets ≡ length group
      → Below (length group) (option_to_list (by_place.chosen sets healthy rows.location))
  places_within sets e =
      some_below (length group) _
      (healthy_below (length group) healthy (by_place.in_order rows.location sets)
      (places_below (length group) rows.location sets e))

  blocks_within : (client : Option (List ℕ)) (locations : List (List ℕ))
      → length locations ≡ length group
      → Below (length group) (option_to_list (blocks.chosen locations healthy client))
  blocks_within client locations e =
      some_below (length group) _
      (healthy_below (length group) healthy (blocks.in_order client locations)
      (blocks_below (length group) client locations e))

  multivalue_within : ChosenOfGroup group (multivalue.chosen healthy word)
  multivalue_within = record {
    within =
        All-from_get_or (λ set. set < length group) (multivalue.chosen healthy word) 0
        (λ j lt. let below = considered_below healthy _ (eight.each_considered healthy word j lt) in
        omega (arith, is, below));
    few = omega (arith, eight.as_many healthy word);
  }

  pub within_by : (r : Routing) → ChosenOfGroup group (chosen_by r group healthy rows word)
  within_by routing.Simple = one 0 some
  within_by (routing.Weighted ident weight) = one _ (weighted_within (each weight_of weight group))
  within_by (routing.Failover ident role) =
      one _ (failover_within (each role_of role group) (length_each role_of role group))
  within_by (routing.Geolocation ident place) =
      of_option _ (places_within (each place_of place group) (length_each place_of place group))
  within_by (routing.Latency ident region) = one _ (latency_within (each region_of region group))
  within_by (routing.Multivalue ident) = multivalue_within
  within_by (routing.Cidr ident collection location) =
      of_option _ (blocks_within (rows.block collection) (each location_of location group)
      (length_each location_of location group))

  pub some_by : (r : Routing) → IsForEachClient r → 0 < length (chosen_by r group healthy rows word)
  some_by routing.Simple for_each = omega arith
  some_by (routing.Weighted ident weight) for_each = omega arith
  some_by (routing.Failover ident role) for_each = omega arith
  some_by (routing.Geolocation ident place) for_each = absurd for_each
  some_by (routing.Latency ident region) for_each = omega arith
  some_by (routing.Multivalue ident) for_each =
      omega (
        arith,
        eight.as_many healthy word,
        some_considered healthy (omega (arith, is, some)),
      )
  some_by (routing.Cidr ident collection location) for_each = absurd for_each

pub of_group : ChosenAreOfGroup
of_group [] healthy rows word is =
    record { within = All-nil (λ set. set < 0); few = omega arith }
of_group (set ∷ sets) healthy rows word is =
    within_by (set ∷ sets) healthy rows word (omega arith) is set.routing

pub some_chosen : SomeIsChosen
some_chosen set sets healthy rows word is for_each =
    some_by (set ∷ sets) healthy rows word (omega arith) is set.routing for_each
