-- The fields of sets that are numbers (FORMATS, Octets of sets).
use Rattle.std.specs.Prelude.{ℕ, ◌^◌, List, [], ◌∷◌, nat_lt, Option, Result}
use Rattle.octet_reading.specs.Readers.{meaning, numbered, tested}
use Rattle.octet_reading.specs.Reading.{octet_at, two_at, four_at}
use Rattle.octet_reading.specs.RTypeRecord.{RType}
use Rattle.octet_reading.specs.RTypeRecord.TheVariants as rtype
use Rattle.octet_reading.specs.Types.{number_of}
use Rattle.set_octets.specs.ContinentRecord.{Continent}
use Rattle.set_octets.specs.ContinentRecord.TheVariants as continent
use Rattle.set_octets.specs.RoleRecord.{Role}
use Rattle.set_octets.specs.RoleRecord.TheVariants as role
use Rattle.set_octets.specs.Octets.{continent_number, role_number}

-- the types, the continents and the roles that have numbers
abbrev pub types : List RType
types =
    rtype.A ∷ rtype.Ns ∷ rtype.Cname ∷ rtype.Soa ∷ rtype.Ptr ∷ rtype.Mx ∷ rtype.Txt
    ∷ rtype.Aaaa ∷ rtype.Srv ∷ rtype.Spf ∷ rtype.Caa ∷ []

abbrev pub continents : List Continent
continents =
    continent.Af ∷ continent.An ∷ continent.As ∷ continent.Eu ∷ continent.Na ∷ continent.Oc ∷ continent.Sa ∷ []

abbrev pub roles : List Role
roles = role.Primary ∷ role.Secondary ∷ []

-- what a number stands for
unfoldable pub type_of_number : ℕ → Option RType
type_of_number n = numbered number_of types n

abbrev pub continent_of_number : ℕ → Option Continent
continent_of_number n = numbered continent_number continents n

abbrev pub role_of_number : ℕ → Option Role
role_of_number n = numbered role_number roles n

-- a type, a continent and the part of a failover set, each by its number
unfoldable pub type_at : List ℕ → Result (RType × List ℕ) ℕ
type_at octets = meaning type_of_number two_at octets

unfoldable pub continent_at : List ℕ → Result (Continent × List ℕ) ℕ
continent_at octets = meaning continent_of_number octet_at octets

unfoldable pub role_at : List ℕ → Result (Role × List ℕ) ℕ
role_at octets = meaning role_of_number octet_at octets

-- a time to live below 2^31
unfoldable pub ttl_at : List ℕ → Result (ℕ × List ℕ) ℕ
ttl_at octets = tested (λ ttl. nat_lt ttl (2 ^ 31)) four_at octets
