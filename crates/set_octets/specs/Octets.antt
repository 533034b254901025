-- The octets of sets: one spelling each (FORMATS, Octets of sets).
use Rattle.std.specs.Prelude.{◌≡◌, ℕ, ◌^◌, ◌<◌, ◌≤◌, List, [], ◌∷◌, ◌++◌, length, Bool, true, false, nat_le, ◌&&◌, Option, None, Some, ⊤}
use Rattle.std.specs.List.{flat_map, AllByRecursion}
use Rattle.octets.specs.Numbers.{two_octets, four_octets}
use Rattle.record_set.specs.Labels.{wire}
use Rattle.record_set.specs.Datum.{Datum}
use Rattle.record_set.specs.Types.{number_of}
use Rattle.record_set.specs.RTypeRecord.{RType}
use Rattle.record_set.specs.Texts.{IsLocation}
use Rattle.record_set.specs.ContinentRecord.{Continent}
use Rattle.record_set.specs.ContinentRecord.TheVariants as continent
use Rattle.record_set.specs.PlaceRecord.{Place}
use Rattle.record_set.specs.PlaceRecord.TheVariants as place
use Rattle.record_set.specs.RoleRecord.{Role}
use Rattle.record_set.specs.RoleRecord.TheVariants as role
use Rattle.record_set.specs.RoutingRecord.{Routing}
use Rattle.record_set.specs.RoutingRecord.TheVariants as routing
use Rattle.record_set.specs.declared.sets.RecordSet.{RecordSet}
use Rattle.record_set.specs.declared.sets.Body.{Body}
use Rattle.record_set.specs.declared.sets.Body.TheVariants as body

-- a text: its length, and its bytes
abbrev pub text_octets : List ℕ → List ℕ
text_octets text = length text ∷ text

abbrev pub continent_number : Continent → ℕ
continent_number continent.Af = 1
continent_number continent.An = 2
continent_number continent.As = 3
continent_number continent.Eu = 4
continent_number continent.Na = 5
continent_number continent.Oc = 6
continent_number continent.Sa = 7

abbrev pub place_octets : Place → List ℕ
place_octets (place.Continent where_to) = 1 ∷ continent_number where_to ∷ []
place_octets (place.Country letters) = 2 ∷ letters
place_octets (place.Subdivision letters part) = 3 ∷ (letters ++ text_octets part)
place_octets place.Anywhere = 4 ∷ []

abbrev pub role_number : Role → ℕ
role_number role.Primary = 1
role_number role.Secondary = 2

abbrev pub routing_octets : Routing → List ℕ
routing_octets routing.Simple = 0 ∷ []
routing_octets (routing.Weighted ident weight) = 1 ∷ (text_octets ident ++ weight ∷ [])
routing_octets (routing.Failover ident part) = 2 ∷ (text_octets ident ++ role_number part ∷ [])
routing_octets (routing.Geolocation ident where_to) = 3 ∷ (text_octets ident ++ place_octets where_to)
routing_octets (routing.Latency ident region) = 4 ∷ (text_octets ident ++ text_octets region)
routing_octets (routing.Multivalue ident) = 5 ∷ text_octets ident
routing_octets (routing.Cidr ident collection location) =
    6 ∷ (text_octets ident ++ four_octets collection ++ text_octets location)

-- a value: the number of its octets, and these
abbrev pub value_octets : Datum → List ℕ
value_octets value = two_octets (length value.wire) ++ value.wire

abbrev pub flag_octet : Bool → ℕ
flag_octet false = 0
flag_octet true = 1

abbrev pub body_octets : Body → List ℕ
body_octets (body.Values ttl values) = 0 ∷ (four_octets ttl ++ two_octets (length values) ++ flat_map value_octets values)
body_octets (body.Alias target evaluate) = 1 ∷ (wire target ++ flag_octet evaluate ∷ [])

abbrev pub check_octets : Option ℕ → List ℕ
check_octets None = 0 ∷ []
check_octets (Some check) = 1 ∷ four_octets check

-- what stands before the body: name, type and policy
abbrev pub head_octets : RecordSet → List ℕ
head_octets set = wire set.name ++ two_octets (number_of set.rtype) ++ routing_octets set.routing

-- name, type, policy, body and check, one after another
abbrev pub set_octets : RecordSet → List ℕ
set_octets set = head_octets set ++ body_octets set.body ++ check_octets set.check

-- A to Z
abbrev pub is_capital : ℕ → Bool
is_capital b = nat_le 0x41 b && nat_le b 0x5A

abbrev pub AreCapitals : List ℕ → Type 0
AreCapitals letters = AllByRecursion (λ b. is_capital b ≡ true) letters

-- the letters of a country are capital
abbrev pub IsSpelledPlace : Place → Type 0
IsSpelledPlace (place.Continent where_to) = ⊤
IsSpelledPlace (place.Country letters) = AreCapitals letters
IsSpelledPlace (place.Subdivision letters part) = AreCapitals letters
IsSpelledPlace place.Anywhere = ⊤

-- and a location is one that sets may name
abbrev pub IsSpelledRouting : Routing → Type 0
IsSpelledRouting routing.Simple = ⊤
IsSpelledRouting (routing.Weighted ident weight) = ⊤
IsSpelledRouting (routing.Failover ident part) = ⊤
IsSpelledRouting (routing.Geolocation ident where_to) = IsSpelledPlace where_to
IsSpelledRouting (routing.Latency ident region) = ⊤
IsSpelledRouting (routing.Multivalue ident) = ⊤
IsSpelledRouting (routing.Cidr ident collection location) = IsLocation location

-- a time to live below 2^31 (RFC 2181, 8), and no more values than can be counted
abbrev pub IsSpelledBody : Body → Type 0
IsSpelledBody (body.Values ttl values) = (ttl < 2 ^ 31) × (length values < 2 ^ 16)
IsSpelledBody (body.Alias target evaluate) = ⊤

-- each value is of the type; an alias has none
abbrev pub AreOfType : RType → Body → Type 0
AreOfType type (body.Values ttl values) = AllByRecursion (λ value. value.rtype ≡ type) values
AreOfType type (body.Alias target evaluate) = ⊤

-- the most octets of a set (own)
abbrev pub most_octets : ℕ
most_octets = 65536

-- What has a spelling. The type of values is not among their octets: it is the set's.
pub record HasSpelling (set : RecordSet) : Type 0 where
  pub routing : IsSpelledRouting set.routing
  pub body : IsSpelledBody set.body
  pub of_type : AreOfType set.rtype set.body
  pub short : length (set_octets set) ≤ most_octets
