-- Policies read in pieces: the front, and what stands behind the identifier.
use Rattle.std.proofs.Common.{◌≡◌, ℕ, zero, suc, ◌+◌, ◌≤◌, ◌<◌, List, [], ◌∷◌, ◌++◌, length, take, drop}
use Rattle.std.proofs.Common.{Option, None, Some, refl, sym, ap, ◌∙◌, arith, append_assoc, length-append, length-take, ◌-◌}
use Rattle.std.specs.Prelude.{IfSome, SomeIff}
use Rattle.std.proofs.lemmas.List.{drop-take, take-append-drop, take-take}
use Rattle.std.proofs.Math.ListN.{get_or}
use Rattle.std.proofs.Math.Seq.{drop-append_seam, take-append_seam}
use Rattle.octets.specs.Numbers.{two_octets}
use Rattle.dns_name.specs.Labels.{wire}
use Rattle.rdata_layout.specs.Types.{number_of}
use Rattle.answer_model.specs.Policies.{place_of, region_of, role_of, weight_of}
use Rattle.routing.specs.Texts.{IsRegion}
use Rattle.routing.specs.declared.policies.Place.{Place}
use Rattle.routing.specs.declared.policies.Role.{Role}
use Rattle.routing.specs.declared.policies.Routing.{Routing}
use Rattle.routing.specs.declared.policies.Routing.TheVariants as policy
use Rattle.zone_table.specs.Octets.{body_octets, check_octets, head_octets, set_octets}
use Rattle.zone_table.specs.Octets.{place_octets, role_number, routing_octets, text_octets}
use Rattle.zone_table.specs.Policies.{PolicyIsAt}
use Rattle.zone_table.specs.RecordSetRecord.{RecordSet}
use Rattle.zone_table.specs.Spelling.{from_policy}
use Rattle.zone_table.specs.SetsOfSetReading.{IsPlace, IsRouting}
use Rattle.policy_select.specs.Members.{IsFrontOfPolicy}

-- the first two octets of a list that was cut behind them
pub first_two : (octets all : List ℕ) (n kind : ℕ) → octets ≡ take n all → 2 ≤ length octets
    → get_or octets 0 0 ≡ kind → take 2 all ≡ kind ∷ get_or octets 1 0 ∷ []
first_two [] all n kind e two is = absurd (omega (arith, two))
first_two (a ∷ []) all n kind e two is = absurd (omega (arith, two))
first_two (a ∷ b ∷ others) all n kind e two is =
    let size = ap length e in
    let cut = length-take n all in
    sym (ap (take 2) e ∙ take-take 2 n all (omega (arith, size, cut))) ∙ ap (λ k. k ∷ b ∷ []) is

-- behind the kind and a text
behind_ident : (kind size : ℕ) (ident said other : List ℕ) → size ≡ length ident
    → drop (size + 2) (kind ∷ ((length ident ∷ ident) ++ said) ++ other) ≡ said ++ other
behind_ident kind size ident said other e =
    let far : size + 2 ≡ suc (suc (length ident)) = omega (arith, e) in
    ap (λ k. drop k (kind ∷ ((length ident ∷ ident) ++ said) ++ other)) far
    ∙ ap (drop (length ident)) (append_assoc ident said other)
    ∙ drop-append_seam ident (said ++ other)

pub weight_there : (routing : Routing) (rest other : List ℕ) (size : ℕ)
    → take 2 (routing_octets routing ++ rest) ≡ 1 ∷ size ∷ []
    → (weight : ℕ) × (weight_of routing ≡ Some weight)
    × (drop (size + 2) (routing_octets routing ++ other) ≡ weight ∷ other)
weight_there policy.Simple rest other size e = absurd (grind (arith, e))
weight_there (policy.Weighted ident weight) rest other size e = (
  weight,
  refl,
  behind_ident 1 size ident (weight ∷ []) other (grind (arith, e)),
)
weight_there (policy.Failover ident role) rest other size e = absurd (grind (arith, e))
weight_there (policy.Geolocation ident place) rest other size e = absurd (grind (arith, e))
weight_there (policy.Latency ident region) rest other size e = absurd (grind (arith, e))
weight_there (policy.Multivalue ident) rest other size e = absurd (grind (arith, e))
weight_there (policy.Cidr ident collection location) rest other size e = absurd (grind (arith, e))

pub role_there : (routing : Routing) (rest other : List ℕ) (size : ℕ)
    → take 2 (routing_octets routing ++ rest) ≡ 2 ∷ size ∷ []
    → (role : Role) × (role_of routing ≡ Some role)
    × (drop (size + 2) (routing_octets routing ++ other) ≡ role_number role ∷ other)
role_there policy.Simple rest other size e = absurd (grind (arith, e))
role_there (policy.Weighted ident weight) rest other size e = absurd (grind (arith, e))
role_there (policy.Failover ident role) rest other size e = (
  role,
  refl,
  behind_ident 2 size ident (role_number role ∷ []) other (grind (arith, e)),
)
role_there (policy.Geolocation ident place) rest other size e = absurd (grind (arith, e))
role_there (policy.Latency ident region) rest other size e = absurd (grind (arith, e))
role_there (policy.Multivalue ident) rest other size e = absurd (grind (arith, e))
role_there (policy.Cidr ident collection location) rest other size e = absurd (grind (arith, e))

pub place_there : (routing : Routing) (rest other : List ℕ) (size : ℕ) → IsRouting routing
    → take 2 (routing_octets routing ++ rest) ≡ 3 ∷ size ∷ []
    → (place : Place) × (place_of routing ≡ Some place) × IsPlace place
    × (drop (size + 2) (routing_octets routing ++ other) ≡ place_octets place ++ other)
place_there policy.Simple rest other size is e = absurd (grind (arith, e))
place_there (policy.Weighted ident weight) rest other size is e = absurd (grind (arith, e))
place_there (policy.Failover ident role) rest other size is e = absurd (grind (arith, e))
place_there (policy.Geolocation ident place) rest other size is e = (
  place,
  refl,
  is.1,
  behind_ident 3 size ident (place_octets place) other (grind (arith, e)),
)
place_there (policy.Latency ident region) rest other size is e = absurd (grind (arith, e))
place_there (policy.Multivalue ident) rest other size is e = absurd (grind (arith, e))
place_there (policy.Cidr ident collection location) rest other size is e = absurd (grind (arith, e))

pub region_there : (routing : Routing) (rest other : List ℕ) (size : ℕ) → IsRouting routing
    → take 2 (routing_octets routing ++ rest) ≡ 4 ∷ size ∷ []
    → (region : List ℕ) × (region_of routing ≡ Some region) × IsRegion region
    × (drop (size + 2) (routing_octets routing ++ other) ≡ text_octets region ++ other)
region_there policy.Simple rest other size is e = absurd (grind (arith, e))
region_there (policy.Weighted ident weight) rest other size is e = absurd (grind (arith, e))
region_there (policy.Failover ident role) rest other size is e = absurd (grind (arith, e))
region_there (policy.Geolocation ident place) rest other size is e = absurd (grind (arith, e))
region_there (policy.Latency ident region) rest other size is e = (
  region,
  refl,
  is.1,
  behind_ident 4 size ident (text_octets region) other (grind (arith, e)),
)
region_there (policy.Multivalue ident) rest other size is e = absurd (grind (arith, e))
region_there (policy.Cidr ident collection location) rest other size is e = absurd (grind (arith, e))

-- a text whose length stands among octets that are more than it says
pub text_fits : (octets text rest : List ℕ) (n : ℕ) → octets ≡ take n (text_octets text ++ rest)
    → get_or octets 0 0 < length octets → length (text_octets text) ≤ length octets
text_fits [] text rest n e long = absurd (omega (arith, long))
text_fits (a ∷ octets) text rest zero e long = absurd (grind (arith, e))
text_fits (a ∷ octets) text rest (suc n) e long =
    let same : a ≡ length text = ap (λ o. get_or o 0 0) e in
    omega (arith, same, long)

-- a region that was made of a text is the text
pub one_region : (made : Option (List ℕ)) (text region : List ℕ) → SomeIff made (IsRegion text) text
    → text ≡ region → IfSome made (λ r. r ≡ region)
one_region None text region h e = tt
one_region (Some r) text region h e = h.1 ∙ e

-- ---- the kind of a policy, by its first octet

simple_there : (routing : Routing) (rest : List ℕ) (size : ℕ)
    → take 2 (routing_octets routing ++ rest) ≡ 0 ∷ size ∷ []
    → routing ≡ policy.Simple
simple_there policy.Simple rest size e = refl
simple_there (policy.Weighted ident weight) rest size e = absurd (grind (arith, e))
simple_there (policy.Failover ident role) rest size e = absurd (grind (arith, e))
simple_there (policy.Geolocation ident place) rest size e = absurd (grind (arith, e))
simple_there (policy.Latency ident region) rest size e = absurd (grind (arith, e))
simple_there (policy.Multivalue ident) rest size e = absurd (grind (arith, e))
simple_there (policy.Cidr ident collection location) rest size e = absurd (grind (arith, e))

latency_there : (routing : Routing) (rest : List ℕ) (size : ℕ)
    → take 2 (routing_octets routing ++ rest) ≡ 4 ∷ size ∷ []
    → (ident region : List ℕ) × (routing ≡ policy.Latency ident region)
latency_there policy.Simple rest size e = absurd (grind (arith, e))
latency_there (policy.Weighted ident weight) rest size e = absurd (grind (arith, e))
latency_there (policy.Failover ident role) rest size e = absurd (grind (arith, e))
latency_there (policy.Geolocation ident place) rest size e = absurd (grind (arith, e))
latency_there (policy.Latency ident region) rest size e = (ident, region, refl)
latency_there (policy.Multivalue ident) rest size e = absurd (grind (arith, e))
latency_there (policy.Cidr ident collection location) rest size e = absurd (grind (arith, e))

several_there : (routing : Routing) (rest : List ℕ) (size : ℕ)
    → take 2 (routing_octets routing ++ rest) ≡ 5 ∷ size ∷ []
    → (ident : List ℕ) × (routing ≡ policy.Multivalue ident)
several_there policy.Simple rest size e = absurd (grind (arith, e))
several_there (policy.Weighted ident weight) rest size e = absurd (grind (arith, e))
several_there (policy.Failover ident role) rest size e = absurd (grind (arith, e))
several_there (policy.Geolocation ident place) rest size e = absurd (grind (arith, e))
several_there (policy.Latency ident region) rest size e = absurd (grind (arith, e))
several_there (policy.Multivalue ident) rest size e = (ident, refl)
several_there (policy.Cidr ident collection location) rest size e = absurd (grind (arith, e))

blocks_there : (routing : Routing) (rest : List ℕ) (size : ℕ)
    → take 2 (routing_octets routing ++ rest) ≡ 6 ∷ size ∷ []
    → (ident location : List ℕ) × (collection : ℕ) × (routing ≡ policy.Cidr ident collection location)
blocks_there policy.Simple rest size e = absurd (grind (arith, e))
blocks_there (policy.Weighted ident weight) rest size e = absurd (grind (arith, e))
blocks_there (policy.Failover ident role) rest size e = absurd (grind (arith, e))
blocks_there (policy.Geolocation ident place) rest size e = absurd (grind (arith, e))
blocks_there (policy.Latency ident region) rest size e = absurd (grind (arith, e))
blocks_there (policy.Multivalue ident) rest size e = absurd (grind (arith, e))
blocks_there (policy.Cidr ident collection location) rest size e = (ident, location, collection, refl)

-- ---- and by what it says

pub weighted_is : (routing : Routing) (x : ℕ) → weight_of routing ≡ Some x
    → (ident : List ℕ) × (routing ≡ policy.Weighted ident x)
weighted_is policy.Simple x e = absurd cc
weighted_is (policy.Weighted ident weight) x e = (ident, (let same : weight ≡ x = cc in ap (policy.Weighted ident) same))
weighted_is (policy.Failover ident role) x e = absurd cc
weighted_is (policy.Geolocation ident place) x e = absurd cc
weighted_is (policy.Latency ident region) x e = absurd cc
weighted_is (policy.Multivalue ident) x e = absurd cc
weighted_is (policy.Cidr ident collection location) x e = absurd cc

pub failover_is : (routing : Routing) (x : Role) → role_of routing ≡ Some x
    → (ident : List ℕ) × (routing ≡ policy.Failover ident x)
failover_is policy.Simple x e = absurd cc
failover_is (policy.Weighted ident weight) x e = absurd cc
failover_is (policy.Failover ident role) x e = (ident, (let same : role ≡ x = cc in ap (policy.Failover ident) same))
failover_is (policy.Geolocation ident place) x e = absurd cc
failover_is (policy.Latency ident region) x e = absurd cc
failover_is (policy.Multivalue ident) x e = absurd cc
failover_is (policy.Cidr ident collection location) x e = absurd cc

pub place_is : (routing : Routing) (x : Place) → place_of routing ≡ Some x
    → (ident : List ℕ) × (routing ≡ policy.Geolocation ident x)
place_is policy.Simple x e = absurd cc
place_is (policy.Weighted ident weight) x e = absurd cc
place_is (policy.Failover ident role) x e = absurd cc
place_is (policy.Geolocation ident place) x e = (ident, (let same : place ≡ x = cc in ap (policy.Geolocation ident) same))
place_is (policy.Latency ident region) x e = absurd cc
place_is (policy.Multivalue ident) x e = absurd cc
place_is (policy.Cidr ident collection location) x e = absurd cc

-- ---- what a set says, by the front of its policy and by what stands behind the identifier

-- the octets from the place of the policy on
pub from_place : (set : RecordSet) (at : ℕ) → PolicyIsAt set at
    → drop at (set_octets set) ≡ from_policy set
from_place set at is =
    let name = wire set.name in
    let two = two_octets (number_of set.rtype) in
    let policy = routing_octets set.routing in
    let body = body_octets set.body in
    let check = check_octets set.check in
    let size : at ≡ length (name ++ two) = omega (arith, is, length-append name two) in
    ap (λ k. drop k (set_octets set)) size
    ∙ ap (drop (length (name ++ two)))
    (append_assoc (head_octets set) body check ∙ append_assoc (name ++ two) policy (body ++ check))
    ∙ drop-append_seam (name ++ two) (from_policy set)

-- the first of two parts is cut from the list from which both are
pub front_cut : (front next all : List ℕ) (n : ℕ) → front ++ next ≡ take n all
    → front ≡ take (length front) all
front_cut front next all n is =
    let size = ap (λ (o : List ℕ). length o) is in
    let cut = length-take n all in
    let both = length-append front next in
    let k = length front in
    sym (take-append_seam front next) ∙ ap (take k) is
    ∙ take-take k n all (omega (arith, size, cut, both))

-- what stands behind a place of a list that was cut was cut behind that place
pub cut_behind : (octets all : List ℕ) (n place : ℕ) → octets ≡ take n all → place ≤ length octets
    → drop place octets ≡ take (n - place) (drop place all)
cut_behind octets all n place is within =
    let size = ap (λ (o : List ℕ). length o) is in
    let cut = length-take n all in
    let whole : n ≡ place + (n - place) = omega (arith, size, cut, within) in
    ap (drop place) is ∙ ap (λ (k : ℕ). drop place (take k all)) whole ∙ drop-take place (n - place) all

-- a list in two parts, of which the second is told
pub joined : (k : ℕ) (all told : List ℕ) → drop k all ≡ told → all ≡ take k all ++ told
joined k all told is = sym (take-append-drop k all) ∙ ap (λ (xs : List ℕ). take k all ++ xs) is

-- What the front of a policy tells of its identifier: that it has so many octets, where the policy is of this
-- kind.
abbrev pub TellsIdent : (front : List ℕ) (kind size : ℕ) → Type 0
TellsIdent front kind size =
    (all : List ℕ) (n : ℕ) → front ≡ take n all → take 2 all ≡ kind ∷ size ∷ []

-- what two parts tell of what stands behind an identifier of so many octets
abbrev pub TellsBehind : (front next : List ℕ) (size : ℕ) (piece : List ℕ) → Type 0
TellsBehind front next size piece = (all : List ℕ) (n : ℕ) → front ++ next ≡ take n all
    → (cut : ℕ) × (piece ≡ take cut (drop (size + 2) all))

module _ (front next piece : List ℕ) (set : RecordSet) (size : ℕ)
    (is : IsFrontOfPolicy (front ++ next) set) (behind : TellsBehind front next size piece) where
  part : (cut : ℕ) × (piece ≡ take cut (drop (size + 2) (routing_octets set.routing ++ is.rest)))
  part = behind (routing_octets set.routing ++ is.rest) is.size is.same

  told : (kind : ℕ) → TellsIdent front kind size → take 2 (routing_octets set.routing ++ is.rest) ≡ kind ∷ size ∷ []
  told kind tells = tells (routing_octets set.routing ++ is.rest) (length front) (front_cut front next (routing_octets set.routing ++ is.rest) is.size is.same)

  pub weight_by : TellsIdent front 1 size
      → (weight cut : ℕ) × (weight_of set.routing ≡ Some weight)
      × (piece ≡ take cut (weight ∷ is.rest))
  weight_by tells =
      let w = weight_there set.routing is.rest is.rest size (told 1 tells) in
      (w.0, part.0, w.1, part.1 ∙ ap (take part.0) w.2)

  pub role_by : TellsIdent front 2 size
      → (role : Role) × (cut : ℕ) × (role_of set.routing ≡ Some role)
      × (piece ≡ take cut (role_number role ∷ is.rest))
  role_by tells =
      let r = role_there set.routing is.rest is.rest size (told 2 tells) in
      (r.0, part.0, r.1, part.1 ∙ ap (take part.0) r.2)

  pub place_by : TellsIdent front 3 size
      → (place : Place) × (cut : ℕ) × (place_of set.routing ≡ Some place) × IsPlace place
      × (piece ≡ take cut (place_octets place ++ is.rest))
  place_by tells =
      let p = place_there set.routing is.rest is.rest size is.is (told 3 tells) in
      (p.0, part.0, p.1, p.2, part.1 ∙ ap (take part.0) p.3)

  pub region_by : TellsIdent front 4 size
      → (region : List ℕ) × (cut : ℕ) × (region_of set.routing ≡ Some region) × IsRegion region
      × (piece ≡ take cut (text_octets region ++ is.rest))
  region_by tells =
      let r = region_there set.routing is.rest is.rest size is.is (told 4 tells) in
      (r.0, part.0, r.1, r.2, part.1 ∙ ap (take part.0) r.3)

  pub simple_by : TellsIdent front 0 size → set.routing ≡ policy.Simple
  simple_by tells = simple_there set.routing is.rest size (told 0 tells)

  pub latency_by : TellsIdent front 4 size
      → (ident region : List ℕ) × (set.routing ≡ policy.Latency ident region)
  latency_by tells = latency_there set.routing is.rest size (told 4 tells)

  pub several_by : TellsIdent front 5 size → (ident : List ℕ) × (set.routing ≡ policy.Multivalue ident)
  several_by tells = several_there set.routing is.rest size (told 5 tells)

  pub blocks_by : TellsIdent front 6 size
      → (ident location : List ℕ) × (collection : ℕ)
      × (set.routing ≡ policy.Cidr ident collection location)
  blocks_by tells = blocks_there set.routing is.rest size (told 6 tells)
