-- The policy of a set is within its bounds.
use Rattle.std.proofs.Common.{◌≡◌, ℕ, List, [], ◌∷◌, Bool, true, false, cond, Option, None, Some, Ok, refl, subst, sym, nat_eq}
use Rattle.std.specs.Prelude.{IfSome, IsSome, option_map}
use Rattle.serde_json.specs.Data.{Data}
use Rattle.line_faults.specs.declared.fault.LineReason.TheVariants.{Alone, Missing}
use Rattle.line_faults.specs.declared.member.Member.{Member}
use Rattle.line_faults.specs.declared.member.Member.TheVariants as m
use Rattle.line_reading.specs.Kinds.{collection_id, number, one_of_texts}
use Rattle.line_reading.specs.Reading.{bad, optional, required}
use Rattle.line_words.specs.Words.{continent_of_text, ident_of_text, location_of_text, region_of_text, role_of_text, subdivision_of_text}
use Rattle.policy_lines.specs.Places.{cidr_routing, country_of_text, geo_location, is_capital, place_of}
use Rattle.policy_lines.specs.Policies.{first_some, given, has_policy, one_of, only_true, policy_members, policy_of, policy_with, routing_of}
use Rattle.policy_lines.specs.declared.policies.Policies.{Policies}
use Rattle.routing.specs.Texts.{IsIdent, IsRegion, IsSubdivision, is_region_byte, is_subdivision_byte}
use Rattle.routing.specs.declared.policies.Continent.{Continent}
use Rattle.routing.specs.declared.policies.Place.{Place}
use Rattle.routing.specs.declared.policies.Place.TheVariants as place
use Rattle.routing.specs.declared.policies.Role.{Role}
use Rattle.routing.specs.declared.policies.Routing.{Routing}
use Rattle.routing.specs.declared.policies.Routing.TheVariants as routing
use Rattle.set_octets.specs.Octets.{IsSpelledPlace, IsSpelledRouting}
use Rattle.set_reading.specs.Sets.{IsPlace, IsRouting}
use Rattle.line_bounds.proofs.Steps.{after_object, is_there, optional_has, required_has, same_ok, steps, word_has}
use Rattle.line_bounds.proofs.Words.{IsNamed, ident_is, location_is, plain_is}

-- ---- places

abbrev IsBoundedPlace : Place → Type 0
IsBoundedPlace where_to = IsPlace where_to × IsSpelledPlace where_to

no_country : (continent : Option Continent) (part : Option (List ℕ)) (where_to : Place)
    → place_of continent None part ≡ Ok where_to → IsBoundedPlace where_to
unfolding place_of
no_country (Some c) None where_to e =
    let same : place.Continent c ≡ where_to = cc in subst IsBoundedPlace same (tt, tt)
no_country (Some c) (Some s) where_to e = absurd cc
no_country None part where_to e = absurd cc

-- `*` has no parts, and a country is two capital letters
in_country : (s : List ℕ) (part : Option (List ℕ)) (where_to : Place) → IfSome part IsSubdivision
    → place_of None (country_of_text s) part ≡ Ok where_to → IsBoundedPlace where_to
unfolding place_of
in_country [] part where_to p e = absurd cc
in_country (a ∷ []) None where_to p e = go (nat_eq a 42) refl
  where
    go : (t : Bool) → nat_eq a 42 ≡ t → IsBoundedPlace where_to
    go true b =
        let same : place.Anywhere ≡ where_to = (let h = rw b at e in cc) in
        subst IsBoundedPlace same (tt, tt)
    go false b = let h = rw b at e in absurd cc
in_country (a ∷ []) (Some s) where_to p e = go (nat_eq a 42) refl
  where
    go : (t : Bool) → nat_eq a 42 ≡ t → IsBoundedPlace where_to
    go true b = let h = rw b at e in absurd cc
    go false b = let h = rw b at e in absurd cc
in_country (a ∷ b ∷ []) part where_to p e = go (is_capital a) (is_capital b) refl refl part p e
  where
    go : (first second : Bool) → is_capital a ≡ first → is_capital b ≡ second
        → (part : Option (List ℕ)) → IfSome part IsSubdivision
        → place_of None (country_of_text (a ∷ b ∷ [])) part ≡ Ok where_to → IsBoundedPlace where_to
    go true true f g None p e =
        let same : place.Country (a ∷ b ∷ []) ≡ where_to = (let h = rw (f, g) at e in cc) in
        subst IsBoundedPlace same (refl, (f, (g, tt)))
    go true true f g (Some s) p e =
        let same : place.Subdivision (a ∷ b ∷ []) s ≡ where_to = (let h = rw (f, g) at e in cc) in
        subst IsBoundedPlace same ((refl, p), (f, (g, tt)))
    go true false f g part p e = let h = rw (f, g) at e in absurd cc
    go false second f g part p e = let h = rw f at e in absurd cc
in_country (a ∷ b ∷ c ∷ s) part where_to p e = absurd cc

-- A continent stands alone.
place_is : (continent : Option Continent) (s : List ℕ) (part : Option (List ℕ)) (where_to : Place)
    → IfSome part IsSubdivision → IsSome (country_of_text s)
    → place_of continent (country_of_text s) part ≡ Ok where_to → IsBoundedPlace where_to
unfolding place_of
place_is None s part where_to p some e = in_country s part where_to p e
place_is (Some c) s part where_to p some e = alone (country_of_text s) some part e
  where
    alone : (land : Option _) → IsSome land → (part : Option (List ℕ))
        → place_of (Some c) land part ≡ Ok where_to
        → IsBoundedPlace where_to
    alone (Some land) some part h = absurd cc
    alone None some part h = absurd cc

geo_is : (h : Member) (o : Data) (where_to : Place) → geo_location h o ≡ Ok where_to
    → IsBoundedPlace where_to
unfolding geo_location
geo_is h o where_to e =
    let a = after_object _ _ _ _ _ where_to e in
    let b = steps (optional m.ContinentCode (one_of_texts continent_of_text) o) _ where_to a in
    let c = steps (optional m.CountryCode (one_of_texts country_of_text) o) _ where_to b.gives in
    let d = steps (optional m.SubdivisionCode (one_of_texts subdivision_of_text) o) _ where_to c.gives in
    by_country b.value c.value d.value
    (optional_has _ m.CountryCode (one_of_texts country_of_text) o c.value
    (word_has (λ land. (s : List ℕ) × (country_of_text s ≡ Some land)) country_of_text (λ s land f. (s, f)) m.CountryCode) c.is)
    (optional_has IsSubdivision m.SubdivisionCode (one_of_texts subdivision_of_text) o d.value
    (word_has IsSubdivision subdivision_of_text (plain_is is_subdivision_byte 3) m.SubdivisionCode) d.is)
    d.gives
  where
    by_country : (continent : Option Continent) (land : Option _) (part : Option (List ℕ))
        → IfSome land (λ land. (s : List ℕ) × (country_of_text s ≡ Some land))
        → IfSome part IsSubdivision → place_of continent land part ≡ Ok where_to
        → IsBoundedPlace where_to
    by_country continent None part l p k = no_country continent part where_to k
    by_country continent (Some land) part l p k =
        place_is continent l.0 part where_to p (subst IsSome (sym l.1) refl)
        (subst (λ x. place_of continent x part ≡ Ok where_to) (sym l.1) k)

block_is : (h : Member) (o : Data) (block : ℕ × List ℕ) → cidr_routing h o ≡ Ok block
    → IsNamed block.1
unfolding cidr_routing
block_is h o block e =
    let a = after_object _ _ _ _ _ block e in
    let b = steps (required m.CollectionId collection_id o) _ block a in
    let c = steps (required m.LocationName (one_of_texts location_of_text) o) _ block b.gives in
    subst (λ (l : ℕ × List ℕ). IsNamed l.1) (same_ok _ block c.gives)
    (required_has IsNamed m.LocationName (one_of_texts location_of_text) o c.value
    (word_has IsNamed location_of_text location_is m.LocationName) c.is)

-- ---- the members of policies

record AreBounded (p : Policies) : Type 0 where
  ident : IfSome p.ident IsIdent
  place : IfSome p.place IsBoundedPlace
  region : IfSome p.region IsRegion
  location : IfSome p.location (λ (l : ℕ × List ℕ). IsNamed l.1)

members_are : (o : Data) (p : Policies) → policy_members o ≡ Ok p → AreBounded p
unfolding policy_members
members_are o p e =
    let a = steps (optional m.SetIdentifier (one_of_texts ident_of_text) o) _ p e in
    let b = steps (optional m.Weight (number 0 255) o) _ p a.gives in
    let c = steps (optional m.Failover (one_of_texts role_of_text) o) _ p b.gives in
    let d = steps (optional m.GeoLocation geo_location o) _ p c.gives in
    let f = steps (optional m.Region (one_of_texts region_of_text) o) _ p d.gives in
    let g = steps (optional m.MultiValueAnswer only_true o) _ p f.gives in
    let k = steps (optional m.CidrRoutingConfig cidr_routing o) _ p g.gives in
    let same = same_ok _ p k.gives in
    subst AreBounded same (record {
      ident = optional_has IsIdent m.SetIdentifier (one_of_texts ident_of_text) o a.value
          (word_has IsIdent ident_of_text ident_is m.SetIdentifier) a.is;
      place = optional_has IsBoundedPlace m.GeoLocation geo_location o d.value (geo_is m.GeoLocation)
          d.is;
      region = optional_has IsRegion m.Region (one_of_texts region_of_text) o f.value
          (word_has IsRegion region_of_text (plain_is is_region_byte 32) m.Region) f.is;
      location = optional_has (λ (l : ℕ × List ℕ). IsNamed l.1) m.CidrRoutingConfig cidr_routing o
          k.value (block_is m.CidrRoutingConfig) k.is;
    })

-- ---- the policy

abbrev pub IsBoundedRouting : Routing → Type 0
IsBoundedRouting policy = IsRouting policy × IsSpelledRouting policy

abbrev listed : (ident : List ℕ) → Option ℕ → Option Role → Option Place → Option (List ℕ) → Bool
    → Option (ℕ × List ℕ) → Option Routing
listed ident weight role where_to region several block = first_some (
    option_map (routing.Weighted ident) weight
    ∷ option_map (routing.Failover ident) role
    ∷ option_map (routing.Geolocation ident) where_to
    ∷ option_map (routing.Latency ident) region
    ∷ (cond several (Some (routing.Multivalue ident)) None)
    ∷ option_map (λ (l : ℕ × List ℕ). routing.Cidr ident l.0 l.1) block
    ∷ [])

listed_is : (ident : List ℕ) (weight : Option ℕ) (role : Option Role) (where_to : Option Place)
    (region : Option (List ℕ)) (several : Bool) (block : Option (ℕ × List ℕ)) (policy : Routing)
    → IsIdent ident → IfSome where_to IsBoundedPlace → IfSome region IsRegion
    → IfSome block (λ (l : ℕ × List ℕ). IsNamed l.1)
    → listed ident weight role where_to region several block ≡ Some policy
    → IsBoundedRouting policy
listed_is ident (Some w) role where_to region several block policy i g r b e =
    let same : routing.Weighted ident w ≡ policy = cc in subst IsBoundedRouting same (i, tt)
listed_is ident None (Some part) where_to region several block policy i g r b e =
    let same : routing.Failover ident part ≡ policy = cc in subst IsBoundedRouting same (i, tt)
listed_is ident None None (Some place) region several block policy i g r b e =
    let same : routing.Geolocation ident place ≡ policy = cc in
    subst IsBoundedRouting same ((i, g.0), g.1)
listed_is ident None None None (Some near) several block policy i g r b e =
    let same : routing.Latency ident near ≡ policy = cc in subst IsBoundedRouting same ((i, r), tt)
listed_is ident None None None None true block policy i g r b e =
    let same : routing.Multivalue ident ≡ policy = cc in subst IsBoundedRouting same (i, tt)
listed_is ident None None None None false (Some l) policy i g r b e =
    let same : routing.Cidr ident l.0 l.1 ≡ policy = cc in
    subst IsBoundedRouting same ((i, b.0), b.1)
listed_is ident None None None None false None policy i g r b e = absurd cc

pub policy_is : (o : Data) (p : Policies) (policy : Routing) → policy_members o ≡ Ok p
    → routing_of p ≡ Ok policy → IsBoundedRouting policy
unfolding routing_of
policy_is o p policy read e =
    let s = steps (one_of false (given p)) _ policy e in
    by_ident (members_are o p read) p.ident refl s.gives
  where
    by_ident : AreBounded p → (ident : Option (List ℕ)) → p.ident ≡ ident
        → policy_of ident p ≡ Ok policy → IsBoundedRouting policy
    by_ident are (Some ident) i h =
        let has : IsIdent ident = subst (λ x. IfSome x IsIdent) i are.ident in
        listed_is ident p.weight p.role p.place p.region p.several p.location policy has are.place
        are.region are.location (is_there (policy_with ident p) Alone m.SetIdentifier policy h)
    by_ident are None i h = go (has_policy p) h
      where
        go : (t : Bool) → cond t (bad Missing m.SetIdentifier) (Ok routing.Simple) ≡ Ok policy
            → IsBoundedRouting policy
        go true k = absurd cc
        go false k = let same : routing.Simple ≡ policy = cc in subst IsBoundedRouting same (tt, tt)
