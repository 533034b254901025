-- The definitions at values from outside.
use Rattle.std.proofs.Common.{◌≡◌, ℕ, List, [], ◌∷◌, codes, None, ap, arith, refl, map, replicate, true}
use Rattle.std.specs.Prelude.{slice_index}
use Rattle.std.specs.List.{sum_by}
use Rattle.zone_model.specs.RTypeRecord.{RType}
use Rattle.zone_model.specs.RTypeRecord.TheVariants as rtype
use Rattle.set_octets.specs.PlaceRecord.{Place}
use Rattle.set_octets.specs.PlaceRecord.TheVariants as place
use Rattle.set_octets.specs.RoleRecord.TheVariants as role
use Rattle.set_octets.specs.RoutingRecord.{Routing}
use Rattle.set_octets.specs.RoutingRecord.TheVariants as routing
use Rattle.zone_model.specs.RecordSetRecord.{RecordSet}
use Rattle.zone_model.specs.BodyRecord.TheVariants as body
use Rattle.batch_model.specs.declared.batches.Action.TheVariants as action
use Rattle.batch_model.specs.Limits.{elements_of, characters_of}
use Rattle.batch_model.specs.Rules.{AreRivals, policy_of}

-- example.com
abbrev apex : List (List ℕ)
apex = codes "example" ∷ codes "com" ∷ []

-- www.example.com
abbrev www : List (List ℕ)
www = codes "www" ∷ apex

-- a set with so many values
abbrev set_of : List (List ℕ) → RType → ℕ → RecordSet
set_of name kind n =
    record {
      name = name;
      rtype = kind;
      routing = routing.Simple;
      body =
          body.Values 300 (replicate n (record { rtype = kind; wire = 192 ∷ 0 ∷ 2 ∷ 1 ∷ [] }));
      check =
          None;
    }

abbrev alias_to : List (List ℕ) → List (List ℕ) → RecordSet
alias_to name target =
    record {
      name = name;
      rtype = rtype.A;
      routing = routing.Simple;
      body =
          body.Alias target true;
      check = None;
    }

-- an UPSERT of 400 values and one of 100 are 1,000 elements, one of 400 and one of 101 are 1,002
thousand : sum_by elements_of
    (record { action = action.Upsert; characters = 0; set = set_of www rtype.A 400 }
    ∷ record { action = action.Upsert; characters = 0; set = set_of apex rtype.A 100 } ∷ []) ≡ 1000
thousand = refl

thousand_and_two : sum_by elements_of
    (record { action = action.Upsert; characters = 0; set = set_of www rtype.A 400 }
    ∷ record { action = action.Upsert; characters = 0; set = set_of apex rtype.A 101 } ∷ []) ≡ 1002
thousand_and_two = refl

-- an alias is one element
alias_is_one : elements_of
    (record { action = action.Create; characters = 0; set = alias_to apex www }) ≡ 1
alias_is_one = refl

-- the characters of an UPSERT count twice
twice : characters_of
    (record { action = action.Upsert; characters = 9; set = set_of www rtype.A 1 }) ≡ 18
twice = refl

-- two collections are two policies, two locations of one collection are one
abbrev office : ℕ → List ℕ → Routing
office collection location = routing.Cidr (codes "a") collection location

policies : map policy_of (office 1 (codes "office") ∷ office 2 (codes "office")
    ∷ office 1 (codes "lab") ∷ [])
    ≡ (6, 1) ∷ (6, 2) ∷ (6, 1) ∷ []
policies = refl

-- each policy is one of its own, whatever the identifier
abbrev ident : List ℕ
ident = codes "b"

own_policies : map policy_of (
    routing.Simple ∷ routing.Weighted ident 7 ∷ routing.Failover ident role.Primary
    ∷ routing.Geolocation ident place.Anywhere
    ∷ routing.Latency ident (codes "us-east-1") ∷ routing.Multivalue ident
    ∷ routing.Cidr ident 0 (codes "lab") ∷ [])
    ≡ (0, 0) ∷ (1, 0) ∷ (2, 0) ∷ (3, 0) ∷ (4, 0) ∷ (5, 0) ∷ (6, 0) ∷ []
own_policies = refl

-- one role, one place and one region are one place, and others are not
abbrev us : Routing
us = routing.Geolocation (codes "a") (place.Country (codes "US"))

one_role : AreRivals (routing.Failover (codes "a") role.Primary)
    (routing.Failover ident role.Primary)
one_role = refl

one_country : AreRivals us (routing.Geolocation ident (place.Country (codes "US")))
one_country = refl

one_region : AreRivals (routing.Latency (codes "a") (codes "us-east-1"))
    (routing.Latency ident (codes "us-east-1"))
one_region = refl

other_role : AreRivals (routing.Failover (codes "a") role.Primary)
    (routing.Failover ident role.Secondary) → ⊥
other_role e = absurd cc

abbrev first_letter : Place → ℕ
first_letter (place.Continent continent) = 0
first_letter (place.Country letters) = slice_index letters 0
first_letter (place.Subdivision letters part) = slice_index letters 0
first_letter place.Anywhere = 0

other_country : AreRivals us (routing.Geolocation ident (place.Country (codes "CA"))) → ⊥
other_country e = let first : 0x55 ≡ 0x43 = ap first_letter e in omega (arith, first)

other_region : AreRivals (routing.Latency (codes "a") (codes "us-east-1"))
    (routing.Latency ident (codes "eu-west-1")) → ⊥
other_region e = let first : 0x75 ≡ 0x65 = ap (λ (text : List ℕ). slice_index text 0) e in
    omega (arith, first)

-- a weighted set has no place that another could have
no_place : AreRivals (routing.Weighted ident 7) (routing.Weighted ident 7) → ⊥
no_place e = e

-- equal locations are one place, whatever the collection
one_location : AreRivals (office 1 (codes "office")) (office 2 (codes "office"))
one_location = refl
