-- What is chosen of a group, in the words of the crate of its policy.
use Rattle.std.specs.Prelude.{◌≡◌, ◌<◌, ℕ, Bool, Option, None, Some, List, [], ◌∷◌, length, map}
use Rattle.std.specs.Prelude.{option_to_list}
use Rattle.cidr_routing.specs.Choice as blocks
use Rattle.failover.specs.Choice as failover
use Rattle.geo_latency.specs.Places as places
use Rattle.geo_latency.specs.Regions as regions
use Rattle.multivalue.specs.Choice as multivalue
use Rattle.record_set.specs.declared.sets.RecordSet.{RecordSet}
use Rattle.routing.specs.declared.policies.Place.{Place}
use Rattle.routing.specs.declared.policies.Role.{Role}
use Rattle.routing.specs.declared.policies.Routing.{Routing}
use Rattle.routing.specs.declared.policies.Routing.TheVariants as routing
use Rattle.weighted.specs.Choice as weighted
use Rattle.choice_model.specs.Choice.{ClientRows, chosen, each}
use Rattle.choice_model.specs.Policies.{weight_of, role_of, place_of, region_of, collection_of, location_of}

-- what the first set says; nothing where there is none
abbrev pub first_says : {X : Type 0} → (Routing → Option X) → List RecordSet → Option X
first_says of [] = None
first_says of (first ∷ others) = of first.routing

-- the policy of a group
abbrev pub policy_of : List RecordSet → Option Routing
policy_of group = first_says Some group

-- The group has a policy: its first set does. These are the values by it, where a set of another policy
-- counts as the first one does.
abbrev pub HasPolicy : {X : Type 0} → (Routing → Option X) → List RecordSet → (values : List X) → Type 0
HasPolicy {X} of group values =
    (first : X) × (first_says of group ≡ Some first) × (each of first group ≡ values)

-- Each set has the policy, and these are their values.
abbrev pub EachHasPolicy : {X : Type 0} → (Routing → Option X) → List RecordSet → (values : List X) → Type 0
EachHasPolicy of group values = map (λ set. of set.routing) group ≡ map Some values

abbrev pub EachIsEnough : {X : Type 0} → (Routing → Option X) → Type 0
EachIsEnough {X} of = (group : List RecordSet) (values : List X)
    → 0 < length values → EachHasPolicy of group values → HasPolicy of group values

-- A group of which each set has a policy has it, with their values.
pub record PoliciesOfGroups : Type 0 where
  pub weighted : EachIsEnough weight_of
  pub failover : EachIsEnough role_of
  pub geolocation : EachIsEnough place_of
  pub latency : EachIsEnough region_of
  pub cidr : EachIsEnough location_of

abbrev pub SimpleChoice : Type 0
SimpleChoice = (group : List RecordSet) (healthy : List Bool) (rows : ClientRows) (word : ℕ)
    → policy_of group ≡ Some routing.Simple → chosen group healthy rows word ≡ 0 ∷ []

abbrev pub WeightedChoice : Type 0
WeightedChoice =
    (group : List RecordSet) (healthy : List Bool) (rows : ClientRows) (word : ℕ) (weights : List ℕ)
    → HasPolicy weight_of group weights
    → chosen group healthy rows word ≡ weighted.chosen weights healthy word ∷ []

abbrev pub FailoverChoice : Type 0
FailoverChoice =
    (group : List RecordSet) (healthy : List Bool) (rows : ClientRows) (word : ℕ) (roles : List Role)
    → HasPolicy role_of group roles
    → chosen group healthy rows word ≡ failover.chosen roles healthy ∷ []

-- No set is chosen where none applies.
abbrev pub GeolocationChoice : Type 0
GeolocationChoice =
    (group : List RecordSet) (healthy : List Bool) (rows : ClientRows) (word : ℕ) (sets : List Place)
    → HasPolicy place_of group sets
    → chosen group healthy rows word ≡ option_to_list (places.chosen sets healthy rows.location)

abbrev pub LatencyChoice : Type 0
LatencyChoice =
    (group : List RecordSet) (healthy : List Bool) (rows : ClientRows) (word : ℕ) (sets : List (List ℕ))
    → HasPolicy region_of group sets
    → chosen group healthy rows word ≡ regions.chosen sets healthy rows.latencies ∷ []

abbrev pub MultivalueChoice : Type 0
MultivalueChoice =
    (group : List RecordSet) (healthy : List Bool) (rows : ClientRows) (word : ℕ) (ident : List ℕ)
    → policy_of group ≡ Some (routing.Multivalue ident)
    → chosen group healthy rows word ≡ multivalue.chosen healthy word

-- The collection is that of the first set. No set is chosen where none applies.
abbrev pub CidrChoice : Type 0
CidrChoice =
    (group : List RecordSet) (healthy : List Bool) (rows : ClientRows) (word : ℕ) (locations : List (List ℕ))
    (collection : ℕ)
    → HasPolicy location_of group locations → first_says collection_of group ≡ Some collection
    → chosen group healthy rows word
    ≡ option_to_list (blocks.chosen locations healthy (rows.block collection))
