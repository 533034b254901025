-- Octets that are a set's, and the set that octets are.
use Rattle.std.specs.Prelude.{◌≡◌, ℕ, zero, suc, List, [], ◌++◌, take, Option, None, Some, Result, Ok, Err}
use Rattle.octets.specs.Numbers.{two_octets}
use Rattle.set_parts.specs.Types.{number_of}
use Rattle.set_parts.specs.RTypeRecord.TheVariants as rtype
use Rattle.set_parts.specs.RoutingRecord.TheVariants as routing
use Rattle.set_parts.specs.RecordSetRecord.{RecordSet}
use Rattle.set_parts.specs.BodyRecord.TheVariants as body
use Rattle.set_parts.specs.Octets.{body_octets, check_octets, routing_octets, set_octets, HasSpelling}
use Rattle.set_parts.specs.Reading.{read}
use Rattle.set_parts.specs.Sets.{IsSet}

-- These octets are the set's, all of them.
pub record Spells (octets : List ℕ) (set : RecordSet) : Type 0 where
  pub is : IsSet set
  pub has_spelling : HasSpelling set
  pub same : octets ≡ set_octets set

-- a set's octets from its body on, from its policy on, and from its type on
abbrev pub from_body : RecordSet → List ℕ
from_body set = body_octets set.body ++ check_octets set.check

abbrev pub from_policy : RecordSet → List ℕ
from_policy set = routing_octets set.routing ++ from_body set

abbrev pub from_type : RecordSet → List ℕ
from_type set = two_octets (number_of set.rtype) ++ from_policy set

-- These octets are the part of a set.
pub record IsPart (octets part : List ℕ) (set : RecordSet) : Type 0 where
  pub is : IsSet set
  pub has_spelling : HasSpelling set
  pub same : octets ≡ part

-- stands for the set of octets that are none's
abbrev pub no_set : RecordSet
no_set =
    record { name = []; rtype = rtype.A; routing = routing.Simple; body = body.Values 0 []; check = None }

abbrev pub set_read : Result (RecordSet × ℕ) ℕ → RecordSet
set_read (Ok x) = x.0
set_read (Err place) = no_set

-- the set that octets begin with
unfoldable pub set_of : List ℕ → RecordSet
set_of octets = set_read (read octets)

-- the set that is held: so many octets of a buffer, or no set where they are none
abbrev pub held_of : List ℕ → (len : ℕ) → Option RecordSet
held_of octets zero = None
held_of octets (suc n) = Some (set_of (take (suc n) octets))
