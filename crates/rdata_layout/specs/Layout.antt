-- The layouts of values: what stands in the data of a record of each type.
use Rattle.std.specs.Prelude.{◌≡◌, ℕ, ◌<◌, ◌≤◌, List, [], ◌∷◌, ◌++◌, length}
use Rattle.std.specs.List.{flat_map, AllByRecursion}
use Rattle.rdata_layout.specs.declared.types.RType.{RType}
use Rattle.rdata_layout.specs.declared.types.RType.TheVariants.{A, Ns, Cname, Soa, Ptr, Mx, Txt, Aaaa, Srv, Spf, Caa}
use Rattle.rdata_layout.specs.declared.fields.Field.{Field}
use Rattle.rdata_layout.specs.declared.fields.Field.TheVariants as field
use Rattle.rdata_layout.specs.declared.fields.Tail.{Tail}
use Rattle.rdata_layout.specs.declared.fields.Tail.TheVariants as tail
use Rattle.rdata_layout.specs.Fields.{IsField}

-- The fields that every value of the type has, in their order: A, NS, CNAME, SOA, PTR and MX
-- (RFC 1035, 3.3 and 3.4.1), AAAA (RFC 3596, 2.2), SRV (RFC 2782), CAA (RFC 8659, 4.1).
abbrev pub fields_of : RType → List Field
fields_of A = field.Ipv4 ∷ []
fields_of Ns = field.Name ∷ []
fields_of Cname = field.Name ∷ []
fields_of Soa = field.Name ∷ field.Name ∷ field.Number32 ∷ field.Number32 ∷ field.Number32
    ∷ field.Number32 ∷ field.Number32 ∷ []
fields_of Ptr = field.Name ∷ []
fields_of Mx = field.Number16 ∷ field.Name ∷ []
fields_of Txt = []
fields_of Aaaa = field.Ipv6 ∷ []
fields_of Srv = field.Number16 ∷ field.Number16 ∷ field.Number16 ∷ field.Name ∷ []
fields_of Spf = []
fields_of Caa = field.Number8 ∷ field.Tag ∷ []

-- What stands behind them: nothing; for TXT (RFC 1035, 3.3.14) and SPF one or more strings; for CAA
-- the property's value.
abbrev pub tail_of : RType → Tail
tail_of A = tail.Nothing
tail_of Ns = tail.Nothing
tail_of Cname = tail.Nothing
tail_of Soa = tail.Nothing
tail_of Ptr = tail.Nothing
tail_of Mx = tail.Nothing
tail_of Txt = tail.Strings
tail_of Aaaa = tail.Nothing
tail_of Srv = tail.Nothing
tail_of Spf = tail.Strings
tail_of Caa = tail.Value

-- a string on the wire: one octet of length, and so many octets (RFC 1035, 3.3)
abbrev pub string_octets : List ℕ → List ℕ
string_octets string = length string ∷ string

abbrev pub IsShort : List ℕ → Type 0
IsShort string = length string ≤ 255

-- strings, one after another
pub record AreStrings (octets : List ℕ) : Type 0 where
  pub strings : List (List ℕ)
  pub each : AllByRecursion IsShort strings
  pub spelled : octets ≡ flat_map string_octets strings

abbrev pub IsTail : Tail → List ℕ → Type 0
IsTail tail.Nothing octets = octets ≡ []
-- one string or more, each of which has its octet of length
IsTail tail.Strings octets = (0 < length octets) × AreStrings octets
-- the value of a CAA property has no length of its own, and no more octets than a string (own)
IsTail tail.Value octets = IsShort octets

-- these fields one after another, and then the tail
abbrev pub AreFields : List Field → Tail → List ℕ → Type 0
AreFields [] end octets = IsTail end octets
AreFields (first ∷ fields) end octets =
    (piece rest : List ℕ) × IsField first piece × (octets ≡ piece ++ rest)
    × AreFields fields end rest

-- the most octets of a value (own)
abbrev pub most_octets : ℕ
most_octets = 4000

-- These octets are a value of the type, with names uncompressed and in lower case.
pub record IsLayout (rtype : RType) (octets : List ℕ) : Type 0 where
  pub short : length octets ≤ most_octets
  pub fields : AreFields (fields_of rtype) (tail_of rtype) octets
