-- The rules that the sets of a zone meet together (API Reference, ResourceRecordSet; Developer Guide, Choosing a routing
-- policy, and Supported DNS record types). They are looked at once, after the last change of a batch (own).
use Rattle.std.specs.Prelude.{◌≡◌, ◌≢◌, ◌⊎◌, ◌<◌, ℕ, List, [], ◌∷◌, length, slice_get, Some, ⊤}
use Rattle.zone_model.specs.RTypeRecord.TheVariants as rtype
use Rattle.set_octets.specs.RoutingRecord.{Routing}
use Rattle.set_octets.specs.RoutingRecord.TheVariants as routing
use Rattle.zone_model.specs.RecordSetRecord.{RecordSet}
use Rattle.zone_model.specs.Zones.{AreOneGroup, IsAmong, group}

-- The policy of a set: a number for each, and for IP-based routing that of its collection.
abbrev pub policy_of : Routing → ℕ × ℕ
policy_of routing.Simple = (0, 0)
policy_of (routing.Weighted ident weight) = (1, 0)
policy_of (routing.Failover ident role) = (2, 0)
policy_of (routing.Geolocation ident place) = (3, 0)
policy_of (routing.Latency ident region) = (4, 0)
policy_of (routing.Multivalue ident) = (5, 0)
policy_of (routing.Cidr ident collection location) = (6, collection)

-- The set at place i has another policy than the set before it in its group.
pub record HasOtherPolicy (sets : List RecordSet) (i : ℕ) (set : RecordSet) : Type 0 where
  pub at : ℕ
  pub earlier : at < i
  pub set_before : RecordSet
  pub there : slice_get sets at ≡ Some set_before
  pub one_group : AreOneGroup set_before set
  pub nearest : (k : ℕ) (other : RecordSet) → at < k → k < i → slice_get sets k ≡ Some other → AreOneGroup other set → ⊥
  pub differs : policy_of set_before.routing ≢ policy_of set.routing

-- a CNAME set has this name
abbrev pub HasCname : List RecordSet → (name : List (List ℕ)) → Type 0
HasCname sets name = (set : RecordSet) × IsAmong sets set × (set.name ≡ name) × (set.rtype ≡ rtype.Cname)

-- a set of another type has this name
abbrev pub HasOtherType : List RecordSet → (name : List (List ℕ)) → Type 0
HasOtherType sets name = (set : RecordSet) × IsAmong sets set × (set.name ≡ name) × (set.rtype ≢ rtype.Cname)

-- A name with a CNAME set has no other, and the apex has none (RFC 1034, 3.6.2).
abbrev pub HasCnameConflict : List RecordSet → (apex name : List (List ℕ)) → Type 0
HasCnameConflict sets apex name = HasCname sets name × (HasOtherType sets name ⊎ (name ≡ apex))

-- Two policies have one place, one failover role, one region or one location.
abbrev pub AreRivals : (policy other : Routing) → Type 0
AreRivals (routing.Failover ident role) (routing.Failover other_ident other_role) = role ≡ other_role
AreRivals (routing.Geolocation ident place) (routing.Geolocation other_ident other_place) = place ≡ other_place
AreRivals (routing.Latency ident region) (routing.Latency other_ident other_region) = region ≡ other_region
AreRivals (routing.Cidr ident collection location) (routing.Cidr other_ident other_collection other_location) =
    location ≡ other_location
AreRivals policy other = ⊥

-- The set at place i has the place, failover role, region or location of an earlier set of its group.
pub record HasSamePlace (sets : List RecordSet) (i : ℕ) (set : RecordSet) : Type 0 where
  pub at : ℕ
  pub earlier : at < i
  pub other : RecordSet
  pub there : slice_get sets at ≡ Some other
  pub one_group : AreOneGroup other set
  pub one_place : AreRivals other.routing set.routing

-- The set is of a group of more than 100 (Route 53 quotas).
abbrev pub IsInFullGroup : List RecordSet → RecordSet → Type 0
IsInFullGroup sets set = 100 < length (group sets set.name set.rtype)

pub data Rule : Type 0 where
  OnePolicy : Rule
  CnameAlone : Rule
  OwnPlace : Rule
  GroupSize : Rule

-- When the set at place i breaks a rule.
abbrev pub Breaks : Rule → List RecordSet → (apex : List (List ℕ)) → (i : ℕ) → RecordSet → Type 0
Breaks OnePolicy sets apex i set = HasOtherPolicy sets i set
Breaks CnameAlone sets apex i set = HasCnameConflict sets apex set.name
Breaks OwnPlace sets apex i set = HasSamePlace sets i set
Breaks GroupSize sets apex i set = IsInFullGroup sets set

-- all rules, in the order in which they are looked at
abbrev pub rules : List Rule
rules = OnePolicy ∷ CnameAlone ∷ OwnPlace ∷ GroupSize ∷ []

-- those before one
abbrev pub rules_before : Rule → List Rule
rules_before OnePolicy = []
rules_before CnameAlone = OnePolicy ∷ []
rules_before OwnPlace = OnePolicy ∷ CnameAlone ∷ []
rules_before GroupSize = OnePolicy ∷ CnameAlone ∷ OwnPlace ∷ []

-- the set at place i breaks the rule
abbrev pub BreaksAt : Rule → List RecordSet → (apex : List (List ℕ)) → ℕ → Type 0
BreaksAt rule sets apex i = (set : RecordSet) × (slice_get sets i ≡ Some set) × Breaks rule sets apex i set

-- no set before place n breaks the rule
abbrev pub NoneBreaksBefore : Rule → List RecordSet → (apex : List (List ℕ)) → ℕ → Type 0
NoneBreaksBefore rule sets apex n = (i : ℕ) → i < n → BreaksAt rule sets apex i → ⊥

-- the sets meet each of these rules
abbrev pub MeetsAll : List Rule → List RecordSet → (apex : List (List ℕ)) → Type 0
MeetsAll [] sets apex = ⊤
MeetsAll (rule ∷ others) sets apex = NoneBreaksBefore rule sets apex (length sets) × MeetsAll others sets apex

-- The set is the first one that breaks this rule, and the sets meet the rules before it.
pub record IsFirstBreak (rule : Rule) (sets : List RecordSet) (apex : List (List ℕ)) (set : RecordSet) : Type 0 where
  pub earlier_rules : MeetsAll (rules_before rule) sets apex
  pub at : ℕ
  pub there : slice_get sets at ≡ Some set
  pub breaks : Breaks rule sets apex at set
  pub first : NoneBreaksBefore rule sets apex at
