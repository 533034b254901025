-- The choice among the sets of a group: those of one name and type, in the order of their identifiers (Route
-- 53 Developer Guide, "Choosing a routing policy"). A set is named by its place in the group, from 0 on.
use Rattle.std.specs.Prelude.{ℕ, Bool, Option, List, [], ◌∷◌, map, unwrap_or, option_to_list}
use Rattle.cidr_routing.specs.Choice as blocks
use Rattle.failover.specs.Choice as failover
use Rattle.geo_latency.specs.Places as places
use Rattle.geo_latency.specs.Regions as regions
use Rattle.geo_latency.specs.declared.location.Location.{Location}
use Rattle.multivalue.specs.Choice as multivalue
use Rattle.record_set.specs.declared.sets.RecordSet.{RecordSet}
use Rattle.routing.specs.declared.policies.Routing.{Routing}
use Rattle.routing.specs.declared.policies.Routing.TheVariants as routing
use Rattle.weighted.specs.Choice as weighted
use Rattle.choice_model.specs.Policies.{weight_of, role_of, place_of, region_of, location_of}

-- What is told of a client: where it is, and its latencies to regions, each by the longest row of a table
-- that contains the client's address; and for each collection of address blocks the location of the longest
-- block that contains it.
pub record ClientRows : Type 0 where
  pub location : Option Location
  pub latencies : Option (List (List ℕ × ℕ))
  pub block : (collection : ℕ) → Option (List ℕ)

-- What each set says by the policy of the first one. In a sound zone all sets of a group have one policy; a
-- set of another one would count as the first set does (own).
abbrev pub each : {X : Type 0} → (Routing → Option X) → (first : X) → List RecordSet → List X
each of first group = map (λ set. unwrap_or (of set.routing) first) group

-- The places of the chosen sets in the order of the choice, where this is the policy of the first set:
--
-- - simple: the one set;
-- - weighted: of the healthy sets, or of all where none is healthy, the one whose stretch of the weights laid
--   end to end holds `word mod total`;
-- - failover: the primary if healthy, else the secondary if healthy, else the primary, or the secondary where
--   it is alone;
-- - geolocation: of the sets that apply to the client the healthy one of the smallest place, or that of the
--   smallest place where none is healthy; none where none applies;
-- - latency: of the healthy sets, or of all where none is healthy, the one of the region with the least
--   latency for the client;
-- - multivalue answer: of the healthy sets, or of all where none is healthy, eight at most, from where the
--   word points;
-- - IP-based: the set of the client's location in the collection that the first set names, then the one of
--   `*`: the first healthy one, or the first where none is healthy; none where neither is there.
abbrev pub chosen_by : Routing → (group : List RecordSet) → (healthy : List Bool) → ClientRows → (word : ℕ)
    → List ℕ
chosen_by routing.Simple group healthy rows word = 0 ∷ []
chosen_by (routing.Weighted ident weight) group healthy rows word =
    weighted.chosen (each weight_of weight group) healthy word ∷ []
chosen_by (routing.Failover ident role) group healthy rows word =
    failover.chosen (each role_of role group) healthy ∷ []
chosen_by (routing.Geolocation ident place) group healthy rows word =
    option_to_list (places.chosen (each place_of place group) healthy rows.location)
chosen_by (routing.Latency ident region) group healthy rows word =
    regions.chosen (each region_of region group) healthy rows.latencies ∷ []
chosen_by (routing.Multivalue ident) group healthy rows word = multivalue.chosen healthy word
chosen_by (routing.Cidr ident collection location) group healthy rows word =
    option_to_list (blocks.chosen (each location_of location group) healthy (rows.block collection))

-- The chosen sets of a group, given which of its sets are healthy. Of no sets none is chosen.
abbrev pub chosen : (group : List RecordSet) → (healthy : List Bool) → ClientRows → (word : ℕ) → List ℕ
chosen [] healthy rows word = []
chosen (first ∷ others) healthy rows word = chosen_by first.routing (first ∷ others) healthy rows word
