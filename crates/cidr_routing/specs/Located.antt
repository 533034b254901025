-- What the location of a client comes to.
use Rattle.std.specs.Prelude.{◌≡◌, ℕ, Option, List}
use Rattle.cidr_commands.specs.IpAddressRecord.{IpAddress}
use Rattle.cidr_commands.specs.CollectionRecord.{Collection}
use Rattle.cidr_commands.specs.Stored.{AreRowsIn, LocatesIn}

-- A client has one location in a collection, and one scope.
abbrev pub OneLocationIn : Type 0
OneLocationIn =
    (found : Option Collection) (client : IpAddress) (name other : Option (List ℕ)) (scope wide : ℕ)
    → AreRowsIn found → LocatesIn found client name scope → LocatesIn found client other wide
    → (name ≡ other) × (scope ≡ wide)
