-- The members of a set that say its routing policy, and the rules on these together.
use Rattle.std.specs.Prelude.{ℕ, List, [], ◌∷◌, Bool, true, false, ◌||◌, is_some, if◌then◌else◌}
use Rattle.std.specs.Prelude.{Option, None, Some, option_map, Result, Ok, ⊤}
use Rattle.routing.specs.declared.policies.Routing.{Routing}
use Rattle.routing.specs.declared.policies.Routing.TheVariants as routing
use Rattle.serde_json.specs.Data.{Data}
use Rattle.line_reading.specs.Reading.{◌>>=◌, optional, or_bad, bad}
use Rattle.line_reading.specs.Kinds.{number, one_of_texts, flag}
use Rattle.line_faults.specs.declared.member.Member.{Member}
use Rattle.line_faults.specs.declared.member.Member.TheVariants as m
use Rattle.line_faults.specs.declared.fault.LineFault.{LineFault}
use Rattle.line_faults.specs.declared.fault.LineReason.TheVariants.{Both, Missing, Alone, OutOfRange}
use Rattle.line_words.specs.Words.{ident_of_text, region_of_text, role_of_text}
use Rattle.policy_lines.specs.Places.{geo_location, cidr_routing}
use Rattle.policy_lines.specs.declared.policies.Policies.{Policies}

-- Only true is a value of it.
unfoldable pub only_true : Member → Data → Result ⊤ LineFault
only_true h d = flag h d >>= λ b. if b then Ok tt else bad OutOfRange h

-- the members, in their order
unfoldable pub policy_members : Data → Result Policies LineFault
policy_members o = do
  id ← optional m.SetIdentifier (one_of_texts ident_of_text) o
  weight ← optional m.Weight (number 0 255) o
  role ← optional m.Failover (one_of_texts role_of_text) o
  where_to ← optional m.GeoLocation geo_location o
  near ← optional m.Region (one_of_texts region_of_text) o
  several ← optional m.MultiValueAnswer only_true o
  block ← optional m.CidrRoutingConfig cidr_routing o
  Ok (record {
    ident = id;
    weight = weight;
    role = role;
    place = where_to;
    region = near;
    several = is_some several;
    location = block;
  })

-- Of these members at most one is there; else the second is told. `one` says whether one stands
-- before them.
abbrev pub one_of : (one : Bool) → List (Member × Bool) → Result ⊤ LineFault
one_of one [] = Ok tt
one_of one (x ∷ more) =
    if x.1 then (if one then bad Both x.0 else one_of true more) else one_of one more

-- which policies are there
abbrev pub given : Policies → List (Member × Bool)
given p = (m.Weight, is_some p.weight) ∷ (m.Failover, is_some p.role)
    ∷ (m.GeoLocation, is_some p.place) ∷ (m.Region, is_some p.region)
    ∷ (m.MultiValueAnswer, p.several) ∷ (m.CidrRoutingConfig, is_some p.location) ∷ []

abbrev pub first_some : List (Option Routing) → Option Routing
first_some [] = None
first_some (None ∷ more) = first_some more
first_some (Some x ∷ more) = Some x

-- the policy that is there, of a set with this identifier
abbrev pub policy_with : (ident : List ℕ) → Policies → Option Routing
policy_with ident p = first_some (
    option_map (routing.Weighted ident) p.weight
    ∷ option_map (routing.Failover ident) p.role
    ∷ option_map (routing.Geolocation ident) p.place
    ∷ option_map (routing.Latency ident) p.region
    ∷ (if p.several then Some (routing.Multivalue ident) else None)
    ∷ option_map (λ (l : ℕ × List ℕ). routing.Cidr ident l.0 l.1) p.location
    ∷ [])

abbrev pub has_policy : Policies → Bool
has_policy p = is_some p.weight || is_some p.role || is_some p.place || is_some p.region
    || p.several || is_some p.location

-- A policy stands with an identifier, and an identifier with a policy.
abbrev pub policy_of : (ident : Option (List ℕ)) → Policies → Result Routing LineFault
policy_of (Some ident) p = or_bad (policy_with ident p) Alone m.SetIdentifier
policy_of None p = if has_policy p then bad Missing m.SetIdentifier else Ok routing.Simple

-- the joint rules on policies, in order
unfoldable pub routing_of : Policies → Result Routing LineFault
routing_of p = do
  _ ← one_of false (given p)
  policy_of p.ident p
