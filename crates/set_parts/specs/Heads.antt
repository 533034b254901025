-- The key of a set among its octets.
use Rattle.std.specs.Prelude.{◌≡◌, ℕ, zero, suc, List, [], ◌∷◌, ◌++◌, take, Option, None, Some, ⊤}
use Rattle.std.specs.Borrow.{Bor}
use Rattle.octets.specs.Numbers.{two_octets}
use Rattle.set_reading.specs.Labels.{wire}
use Rattle.set_reading.specs.Types.{number_of}
use Rattle.set_reading.specs.RoutingRecord.{Routing}
use Rattle.set_reading.specs.RoutingRecord.TheVariants as routing
use Rattle.set_reading.specs.SetsOfRecordSet.{ident_of}
use Rattle.set_reading.specs.RecordSetRecord.{RecordSet}
use Rattle.set_reading.specs.Octets.{text_octets}
use Rattle.set_parts.specs.declared.heads.KeyFront.{KeyFront}

-- the kind of a policy and the identifier, with which its octets begin
abbrev pub policy_front : Routing → List ℕ
policy_front routing.Simple = 0 ∷ []
policy_front (routing.Weighted ident weight) = 1 ∷ text_octets ident
policy_front (routing.Failover ident role) = 2 ∷ text_octets ident
policy_front (routing.Geolocation ident where_to) = 3 ∷ text_octets ident
policy_front (routing.Latency ident region) = 4 ∷ text_octets ident
policy_front (routing.Multivalue ident) = 5 ∷ text_octets ident
policy_front (routing.Cidr ident collection location) = 6 ∷ text_octets ident

-- name, type, and the front of the policy: all that a set's key is told by
abbrev pub key_octets : RecordSet → List ℕ
key_octets set = wire set.name ++ (two_octets (number_of set.rtype) ++ policy_front set.routing)

-- these octets are told, or none
abbrev pub Tells : Option (List ℕ) → Option (Bor (List ℕ)) → Type 0
Tells None None = ⊤
Tells None (Some told) = ⊥
Tells (Some text) None = ⊥
Tells (Some text) (Some told) = told.now ≡ text

-- a text without its length
abbrev pub text_behind : List ℕ → List ℕ
text_behind [] = []
text_behind (size ∷ octets) = take size octets

-- the identifier behind a kind, where 0 is the kind without one
abbrev pub told_ident : List ℕ → Option (List ℕ)
told_ident [] = None
told_ident (zero ∷ octets) = None
told_ident (suc kind ∷ octets) = Some (text_behind octets)

-- What is told of a set's key.
pub record IsKeyFrontOf (set : RecordSet) (head : KeyFront) : Type 0 where
  pub name : head.name.now ≡ wire set.name
  pub rtype : head.rtype ≡ set.rtype
  pub ident : Tells (ident_of set.routing) head.ident
