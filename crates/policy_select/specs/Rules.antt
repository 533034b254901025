-- A policy without its identifier, and without what is long.
use Rattle.std.specs.Prelude.{◌≡◌, ℕ, List, Option, Some, slice_get}
use Rattle.routing.specs.declared.policies.Routing.{Routing}
use Rattle.routing.specs.declared.policies.Routing.TheVariants as routing
use Rattle.zone_table.specs.RecordSetRecord.{RecordSet}
use Rattle.policy_select.specs.declared.rules.Rule.{Rule}
use Rattle.policy_select.specs.declared.rules.Rule.TheVariants as rule

-- the policy is this one, with whichever identifier
abbrev pub IsOf : Rule → Routing → Type 0
IsOf rule.Simple policy = policy ≡ routing.Simple
IsOf (rule.Weighted weight) policy = (ident : List ℕ) × (policy ≡ routing.Weighted ident weight)
IsOf (rule.Failover role) policy = (ident : List ℕ) × (policy ≡ routing.Failover ident role)
IsOf (rule.Geolocation place) policy =
    (ident : List ℕ) × (policy ≡ routing.Geolocation ident place)
IsOf rule.Latency policy = (ident region : List ℕ) × (policy ≡ routing.Latency ident region)
IsOf rule.Multivalue policy = (ident : List ℕ) × (policy ≡ routing.Multivalue ident)
IsOf rule.Cidr policy =
    (ident location : List ℕ) × (collection : ℕ) × (policy ≡ routing.Cidr ident collection location)

-- what the first set of a group says by its policy
abbrev pub FirstSays : {X : Type 0} → (of : Routing → Option X) → (x : X) → List RecordSet → Type 0
FirstSays of x sets =
    (set : RecordSet) × (slice_get sets 0 ≡ Some set) × (of set.routing ≡ Some x)
