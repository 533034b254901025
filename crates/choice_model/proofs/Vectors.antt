-- The definitions at values from outside.
use Rattle.std.proofs.Common.{◌≡◌, ℕ, Bool, true, false, Some, None, List, [], ◌∷◌, refl, replicate}
use Rattle.std.specs.Prelude.{codes, if◌then◌else◌, ◌==◌}
use Rattle.record_set.specs.declared.sets.Body.TheVariants as body
use Rattle.record_set.specs.declared.sets.RecordSet.{RecordSet}
use Rattle.record_set.specs.RTypeRecord.TheVariants as rtype
use Rattle.routing.specs.declared.policies.Continent.TheVariants.{Na}
use Rattle.routing.specs.declared.policies.Place.TheVariants as place
use Rattle.routing.specs.declared.policies.Role.TheVariants.{Primary, Secondary}
use Rattle.routing.specs.declared.policies.Routing.{Routing}
use Rattle.routing.specs.declared.policies.Routing.TheVariants as routing
use Rattle.choice_model.specs.Choice.{ClientRows, chosen}

-- a set of www.example.com with a policy
abbrev set : Routing → RecordSet
set policy =
    record {
      name = codes "www" ∷ codes "example" ∷ codes "com" ∷ [];
      rtype = rtype.A;
      routing = policy;
      body =
          body.Values 60 ((record { rtype = rtype.A; wire = 192 ∷ 0 ∷ 2 ∷ 1 ∷ [] }) ∷ []);
      check = None;
    }

-- a client of whom nothing is told
abbrev nobody : ClientRows
nobody = record { location = None; latencies = None; block = λ collection. None }

simple : chosen (set routing.Simple ∷ []) (false ∷ []) nobody 7 ≡ 0 ∷ []
simple = refl

no_set : chosen [] [] nobody 7 ≡ []
no_set = refl

-- sets a, b and c of the weights 1, 0 and 3
abbrev weighted : List RecordSet
weighted = set (routing.Weighted (codes "a") 1) ∷ set (routing.Weighted (codes "b") 0)
    ∷ set (routing.Weighted (codes "c") 3) ∷ []

abbrev all : List Bool
all = true ∷ true ∷ true ∷ []

word_0 : chosen weighted all nobody 0 ≡ 0 ∷ []
word_0 = refl

word_1 : chosen weighted all nobody 1 ≡ 2 ∷ []
word_1 = refl

word_3 : chosen weighted all nobody 3 ≡ 2 ∷ []
word_3 = refl

word_4 : chosen weighted all nobody 4 ≡ 0 ∷ []
word_4 = refl

b_alone_healthy : chosen weighted (false ∷ true ∷ false ∷ []) nobody 1 ≡ 1 ∷ []
b_alone_healthy = refl

none_healthy_0 : chosen weighted (false ∷ false ∷ false ∷ []) nobody 0 ≡ 0 ∷ []
none_healthy_0 = refl

none_healthy_1 : chosen weighted (false ∷ false ∷ false ∷ []) nobody 1 ≡ 2 ∷ []
none_healthy_1 = refl

-- a set of another policy counts as the first one: 1, 1 and 3
other_policy : chosen (set (routing.Weighted (codes "a") 1) ∷ set (routing.Multivalue (codes "b"))
    ∷ set (routing.Weighted (codes "c") 3) ∷ []) all nobody 1 ≡ 1 ∷ []
other_policy = refl

-- a secondary, and then a primary
abbrev pair : List RecordSet
pair = set (routing.Failover (codes "a") Secondary) ∷ set (routing.Failover (codes "b") Primary)
    ∷ []

both_unhealthy : chosen pair (false ∷ false ∷ []) nobody 0 ≡ 1 ∷ []
both_unhealthy = refl

secondary_healthy : chosen pair (true ∷ false ∷ []) nobody 0 ≡ 0 ∷ []
secondary_healthy = refl

primary_healthy : chosen pair (true ∷ true ∷ []) nobody 0 ≡ 1 ∷ []
primary_healthy = refl

secondary_alone : chosen (set (routing.Failover (codes "a") Secondary) ∷ []) (false ∷ []) nobody 0
    ≡ 0 ∷ []
secondary_alone = refl

-- a client in Texas
abbrev texan : ClientRows
texan = record nobody {
  location = Some (record {
    continent = Na;
    country = Some (codes "US");
    subdivision = Some (codes "TX");
  });
}

-- sets for anywhere, for North America, for Texas and for the United States
abbrev placed : List RecordSet
placed = set (routing.Geolocation (codes "a") place.Anywhere)
    ∷ set (routing.Geolocation (codes "b") (place.Continent Na))
    ∷ set (routing.Geolocation (codes "c") (place.Subdivision (codes "US") (codes "TX")))
    ∷ set (routing.Geolocation (codes "d") (place.Country (codes "US"))) ∷ []

texas : chosen placed (true ∷ true ∷ true ∷ true ∷ []) texan 0 ≡ 2 ∷ []
texas = refl

texas_unhealthy : chosen placed (true ∷ true ∷ false ∷ true ∷ []) texan 0 ≡ 3 ∷ []
texas_unhealthy = refl

no_place_healthy : chosen placed (false ∷ false ∷ false ∷ false ∷ []) texan 0 ≡ 2 ∷ []
no_place_healthy = refl

without_row : chosen placed (true ∷ true ∷ true ∷ true ∷ []) nobody 0 ≡ 0 ∷ []
without_row = refl

-- without the set for anywhere
none_applies : chosen (set (routing.Geolocation (codes "b") (place.Continent Na)) ∷ []) (true ∷ [])
    nobody 0 ≡ []
none_applies = refl

-- nine sets
abbrev several : List RecordSet
several = replicate 9 (set (routing.Multivalue (codes "a")))

from_the_eighth : chosen several (replicate 9 true) nobody 7
    ≡ 7 ∷ 8 ∷ 0 ∷ 1 ∷ 2 ∷ 3 ∷ 4 ∷ 5 ∷ []
from_the_eighth = refl

none_of_nine_healthy : chosen several (replicate 9 false) nobody 7
    ≡ 7 ∷ 8 ∷ 0 ∷ 1 ∷ 2 ∷ 3 ∷ 4 ∷ 5 ∷ []
none_of_nine_healthy = refl

-- sets of the regions b, z and a, and a row that tells of a and b the same
abbrev regions : List RecordSet
regions = set (routing.Latency (codes "1") (codes "b"))
    ∷ set (routing.Latency (codes "2") (codes "z"))
    ∷ set (routing.Latency (codes "3") (codes "a")) ∷ []

as_slow : chosen regions all (record nobody {
  latencies = Some ((codes "b", 20) ∷ (codes "a", 20) ∷ []);
}) 0 ≡ 2 ∷ []
as_slow = refl

no_region_told : chosen regions all nobody 0 ≡ 2 ∷ []
no_region_told = refl

-- clients in blocks of the office and of the lab of the first collection
abbrev at : List ℕ → ClientRows
at location = record nobody {
  block = λ collection. if collection == 1 then Some location else None;
}

-- sets for the lab, for `*` and for the office
abbrev located : List RecordSet
located = set (routing.Cidr (codes "a") 1 (codes "lab"))
    ∷ set (routing.Cidr (codes "b") 1 (codes "*"))
    ∷ set (routing.Cidr (codes "c") 1 (codes "office")) ∷ []

office : chosen located all (at (codes "office")) 0 ≡ 2 ∷ []
office = refl

lab : chosen located all (at (codes "lab")) 0 ≡ 0 ∷ []
lab = refl

no_block : chosen located all nobody 0 ≡ 1 ∷ []
no_block = refl

office_unhealthy : chosen located (true ∷ true ∷ false ∷ []) (at (codes "office")) 0 ≡ 1 ∷ []
office_unhealthy = refl

-- a client whose block is of the office in the second collection, and of the lab in the first
abbrev in_two : ClientRows
in_two = record nobody {
  block = λ collection. if collection == 1 then Some (codes "lab")
      else if collection == 2 then Some (codes "office") else None;
}

-- sets of the second collection for the lab, for `*` and for the office
abbrev of_two : List RecordSet
of_two = set (routing.Cidr (codes "a") 2 (codes "lab"))
    ∷ set (routing.Cidr (codes "b") 2 (codes "*"))
    ∷ set (routing.Cidr (codes "c") 2 (codes "office")) ∷ []

second_collection : chosen of_two all in_two 0 ≡ 2 ∷ []
second_collection = refl

first_collection : chosen located all in_two 0 ≡ 0 ∷ []
first_collection = refl

-- a block in another collection alone is none here
of_first_alone : chosen of_two all (at (codes "office")) 0 ≡ 1 ∷ []
of_first_alone = refl

-- without the set of `*`
no_location : chosen (set (routing.Cidr (codes "a") 1 (codes "lab")) ∷ []) (true ∷ [])
    (at (codes "office")) 0 ≡ []
no_location = refl
