-- What sets are named by.
use Rattle.std.specs.Prelude.{ℕ, List, Option, None, Some}
use Rattle.routing.specs.declared.policies.Routing.{Routing}
use Rattle.routing.specs.declared.policies.Routing.TheVariants as routing
use Rattle.record_set.specs.declared.sets.RecordSet.{RecordSet}
use Rattle.record_set.specs.declared.sets.SetKey.{SetKey}

-- the identifier of a policy; a simple set has none
abbrev pub ident_of : Routing → Option (List ℕ)
ident_of routing.Simple = None
ident_of (routing.Weighted ident weight) = Some ident
ident_of (routing.Failover ident role) = Some ident
ident_of (routing.Geolocation ident place) = Some ident
ident_of (routing.Latency ident region) = Some ident
ident_of (routing.Multivalue ident) = Some ident
ident_of (routing.Cidr ident collection location) = Some ident

-- a set's name, type and identifier
abbrev pub key_of : RecordSet → SetKey
key_of set = record { name = set.name; rtype = set.rtype; ident = ident_of set.routing }
