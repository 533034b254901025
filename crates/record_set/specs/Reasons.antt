-- Why a set is refused, by itself (API Reference, ResourceRecordSet; Developer Guide, Choosing a routing policy).
use Rattle.std.specs.Prelude.{◌≡◌, ◌≢◌, ◌<◌, ◌⊎◌, ℕ, List, [], ◌∷◌, length, Option, Some, None, slice_get, ⊤}
use Rattle.rdata.specs.Wildcard.{wildcard}
use Rattle.rdata.specs.Datum.{Datum}
use Rattle.rdata.specs.RTypeRecord.{RType}
use Rattle.rdata.specs.RTypeRecord.TheVariants as rtype
use Rattle.routing.specs.declared.policies.Routing.{Routing}
use Rattle.routing.specs.declared.policies.Routing.TheVariants as routing
use Rattle.record_set.specs.declared.sets.RecordSet.{RecordSet}
use Rattle.record_set.specs.declared.sets.Body.{Body}
use Rattle.record_set.specs.declared.sets.Body.TheVariants as body
use Rattle.record_set.specs.declared.reasons.Reason.{Reason}
use Rattle.record_set.specs.declared.reasons.Reason.TheVariants as reason

-- two equal values at different places
pub record HasRepeated (values : List Datum) : Type 0 where
  pub first : ℕ
  pub second : ℕ
  pub apart : first < second
  pub within : second < length values
  pub equal : slice_get values first ≡ slice_get values second

-- the set has values, and they have this
abbrev pub WithValues : (List Datum → Type 0) → Body → Type 0
WithValues Has (body.Values ttl values) = Has values
WithValues Has (body.Alias target evaluate) = ⊥

-- the set is an alias
abbrev pub IsAlias : Body → Type 0
IsAlias (body.Values ttl values) = ⊥
IsAlias (body.Alias target evaluate) = ⊤

-- the set has a multivalue answer policy
abbrev pub IsMultivalue : Routing → Type 0
IsMultivalue (routing.Multivalue ident) = ⊤
IsMultivalue routing.Simple = ⊥
IsMultivalue (routing.Weighted ident weight) = ⊥
IsMultivalue (routing.Failover ident role) = ⊥
IsMultivalue (routing.Geolocation ident place) = ⊥
IsMultivalue (routing.Latency ident region) = ⊥
IsMultivalue (routing.Cidr ident collection location) = ⊥

-- A name has one canonical name, and a zone one start of authority (RFC 1034, 3.6.2 and 4.2.1).
abbrev pub HasOneValue : RType → Type 0
HasOneValue kind = (kind ≡ rtype.Cname) ⊎ (kind ≡ rtype.Soa)

-- the types that say how a zone is served
abbrev pub IsOfZone : RType → Type 0
IsOfZone kind = (kind ≡ rtype.Ns) ⊎ (kind ≡ rtype.Soa)

-- a routing policy or an alias with a type of a zone
abbrev pub RoutesZone : RecordSet → Type 0
RoutesZone set = IsOfZone set.rtype × ((set.routing ≢ routing.Simple) ⊎ IsAlias set.body)

-- several answers where one is wanted, or an alias among them
abbrev pub AnswersSeveral : RecordSet → Type 0
AnswersSeveral set = IsMultivalue set.routing × ((set.rtype ≡ rtype.Cname) ⊎ IsOfZone set.rtype ⊎ IsAlias set.body)

-- When a reason holds of a set in the zone of this apex. The most values of a set are 400 (Route 53 quotas).
abbrev pub HoldsOf : Reason → RecordSet → (apex : List (List ℕ)) → Type 0
HoldsOf reason.NoValues set apex = WithValues (λ values. values ≡ []) set.body
HoldsOf reason.TooManyValuesInSet set apex = WithValues (λ values. 400 < length values) set.body
HoldsOf reason.RepeatedValue set apex = WithValues HasRepeated set.body
HoldsOf reason.OneValueOnly set apex = HasOneValue set.rtype × WithValues (λ values. 1 < length values) set.body
HoldsOf reason.SoaNotAtApex set apex = (set.rtype ≡ rtype.Soa) × (set.name ≢ apex)
HoldsOf reason.PolicyNotAllowed set apex = RoutesZone set ⊎ AnswersSeveral set
HoldsOf reason.WildcardNs set apex = (set.rtype ≡ rtype.Ns) × ((rest : List (List ℕ)) × (set.name ≡ wildcard ∷ rest))

-- all reasons, in the order in which they are told
abbrev pub reasons : List Reason
reasons =
    reason.NoValues ∷ reason.TooManyValuesInSet ∷ reason.RepeatedValue ∷ reason.OneValueOnly ∷ reason.SoaNotAtApex
    ∷ reason.PolicyNotAllowed ∷ reason.WildcardNs ∷ []

-- those before one
abbrev pub before : Reason → List Reason
before reason.NoValues = []
before reason.TooManyValuesInSet = reason.NoValues ∷ []
before reason.RepeatedValue = reason.NoValues ∷ reason.TooManyValuesInSet ∷ []
before reason.OneValueOnly = reason.NoValues ∷ reason.TooManyValuesInSet ∷ reason.RepeatedValue ∷ []
before reason.SoaNotAtApex =
    reason.NoValues ∷ reason.TooManyValuesInSet ∷ reason.RepeatedValue ∷ reason.OneValueOnly ∷ []
before reason.PolicyNotAllowed =
    reason.NoValues ∷ reason.TooManyValuesInSet ∷ reason.RepeatedValue ∷ reason.OneValueOnly ∷ reason.SoaNotAtApex ∷ []
before reason.WildcardNs =
    reason.NoValues ∷ reason.TooManyValuesInSet ∷ reason.RepeatedValue ∷ reason.OneValueOnly ∷ reason.SoaNotAtApex
    ∷ reason.PolicyNotAllowed ∷ []

abbrev pub NoneHolds : List Reason → RecordSet → (apex : List (List ℕ)) → Type 0
NoneHolds [] set apex = ⊤
NoneHolds (first ∷ others) set apex = (HoldsOf first set apex → ⊥) × NoneHolds others set apex

-- the first reason that holds, or none
abbrev pub IsFirst : Option Reason → RecordSet → (apex : List (List ℕ)) → Type 0
IsFirst None set apex = NoneHolds reasons set apex
IsFirst (Some first) set apex = HoldsOf first set apex × NoneHolds (before first) set apex
