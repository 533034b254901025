-- Texts of lines that stand for something: types, identifiers, places and the like.
use Rattle.std.specs.Prelude.{ℕ, List, [], ◌∷◌, length, codes, Bool, ◌&&◌, ◌||◌, nat_le}
use Rattle.std.specs.Prelude.{is_some, if◌then◌else◌, Option, None, Some, Result}
use Rattle.std.specs.List.{list_all}
use Rattle.std.specs.Str.{bytes_eq}
use Rattle.rdata_layout.specs.declared.types.RType.{RType}
use Rattle.rdata_layout.specs.declared.types.RType.TheVariants as rtype
use Rattle.rdata_layout.specs.Types.{text_of}
use Rattle.routing.specs.declared.policies.Continent.{Continent}
use Rattle.routing.specs.declared.policies.Continent.TheVariants as continent
use Rattle.routing.specs.declared.policies.Role.{Role}
use Rattle.routing.specs.declared.policies.Role.TheVariants as role
use Rattle.routing.specs.Texts.{is_printable, is_region_byte, is_subdivision_byte, is_location_byte}
use Rattle.serde_json.specs.Data.{Data}
use Rattle.line_reading.specs.Reading.{◌>>=◌, or_bad, unsupported, named}
use Rattle.line_reading.specs.Kinds.{text}
use Rattle.line_faults.specs.declared.member.Member.{Member}
use Rattle.line_faults.specs.declared.member.Member.TheVariants as m
use Rattle.line_faults.specs.declared.fault.LineFault.{LineFault}
use Rattle.line_faults.specs.declared.fault.LineReason.TheVariants.{OutOfRange}

-- a text of 1 to so many bytes, each of them plain
abbrev pub plain : (ℕ → Bool) → ℕ → List ℕ → Option (List ℕ)
plain is_plain most s =
    if (nat_le 1 (length s) && nat_le (length s) most) && list_all is_plain s then Some s else None

-- a set identifier: 1 to 128 bytes of printable ASCII
abbrev pub ident_of_text : List ℕ → Option (List ℕ)
ident_of_text = plain is_printable 128

-- the name of a region: 1 to 32 of a to z, 0 to 9 and the hyphen
abbrev pub region_of_text : List ℕ → Option (List ℕ)
region_of_text = plain is_region_byte 32

-- the code of a subdivision: 1 to 3 of A to Z and 0 to 9
abbrev pub subdivision_of_text : List ℕ → Option (List ℕ)
subdivision_of_text = plain is_subdivision_byte 3

-- the location that a set names: 1 to 16 of letters, digits, `_` and `-`; or `*`
abbrev pub is_location : List ℕ → Bool
is_location s = bytes_eq s (codes "*") || is_some (plain is_location_byte 16 s)

abbrev pub location_of_text : List ℕ → Option (List ℕ)
location_of_text s = if is_location s then ident_of_text s else None

-- the types of records
abbrev pub types : List RType
types = rtype.A ∷ rtype.Ns ∷ rtype.Cname ∷ rtype.Soa ∷ rtype.Ptr ∷ rtype.Mx ∷ rtype.Txt
    ∷ rtype.Aaaa ∷ rtype.Srv ∷ rtype.Spf ∷ rtype.Caa ∷ []

unfoldable pub type_named : List ℕ → Option RType
type_named = named text_of types

-- types that Route 53 has and r53 does not
abbrev pub is_unsupported : List ℕ → Bool
is_unsupported s =
    bytes_eq s (codes "DS") || bytes_eq s (codes "HTTPS") || bytes_eq s (codes "NAPTR")
    || bytes_eq s (codes "SSHFP") || bytes_eq s (codes "SVCB") || bytes_eq s (codes "TLSA")

-- A type that is not supported is told with the member Type, wherever it stands.
abbrev pub type_of : Member → List ℕ → Result RType LineFault
type_of h s =
    if is_unsupported s then unsupported m.«Type» else or_bad (type_named s) OutOfRange h

unfoldable pub record_type : Member → Data → Result RType LineFault
record_type h d = text h d >>= type_of h

-- the continents (API Reference, GeoLocation)
abbrev pub code_of : Continent → List ℕ
code_of continent.Af = codes "AF"
code_of continent.An = codes "AN"
code_of continent.As = codes "AS"
code_of continent.Eu = codes "EU"
code_of continent.Na = codes "NA"
code_of continent.Oc = codes "OC"
code_of continent.Sa = codes "SA"

abbrev pub continents : List Continent
continents = continent.Af ∷ continent.An ∷ continent.As ∷ continent.Eu ∷ continent.Na
    ∷ continent.Oc ∷ continent.Sa ∷ []

abbrev pub continent_of_text : List ℕ → Option Continent
continent_of_text = named code_of continents

-- the parts of failover sets
abbrev pub role_of_text : List ℕ → Option Role
role_of_text s = if bytes_eq s (codes "PRIMARY") then Some role.Primary
    else if bytes_eq s (codes "SECONDARY") then Some role.Secondary
    else None
