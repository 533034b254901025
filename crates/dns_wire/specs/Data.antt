-- The data of a record as a reply writes it (RFC 1035, 3.3).
use Rattle.std.specs.Prelude.{◌≡◌, ℕ, List, [], ◌∷◌, ◌++◌, take, drop, Bool, true, false, if◌then◌else◌}
use Rattle.rdata_layout.specs.Stored.{labels_of}
use Rattle.rdata_layout.specs.declared.types.RType.{RType}
use Rattle.rdata_layout.specs.declared.types.RType.TheVariants.{A, Ns, Cname, Soa, Ptr, Mx, Txt, Aaaa, Srv, Spf, Caa}
use Rattle.rdata_layout.specs.declared.fields.Field.{Field}
use Rattle.rdata_layout.specs.declared.fields.Field.TheVariants as field
use Rattle.rdata_layout.specs.Fields.{IsField, field_size}
use Rattle.rdata_layout.specs.Layout.{fields_of}
use Rattle.dns_wire.specs.Pointers.{name_octets}

-- Pointers stand in the data of types of RFC 1035 alone (RFC 3597, 4).
abbrev pub has_pointers : RType → Bool
has_pointers A = false
has_pointers Ns = true
has_pointers Cname = true
has_pointers Soa = true
has_pointers Ptr = true
has_pointers Mx = true
has_pointers Txt = false
has_pointers Aaaa = false
has_pointers Srv = false
has_pointers Spf = false
has_pointers Caa = false

-- the octets begin with a field of this kind
pub record BeginsWith (kind : Field) (octets : List ℕ) : Type 0 where
  pub piece : List ℕ
  pub rest : List ℕ
  pub field : IsField kind piece
  pub there : octets ≡ piece ++ rest

-- a field: names as names are written, and all others as they are
abbrev pub field_octets : (name : List (List ℕ)) → Field → List ℕ → List ℕ
field_octets name field.Ipv4 octets = octets
field_octets name field.Ipv6 octets = octets
field_octets name field.Name octets = name_octets name (labels_of octets)
field_octets name field.Number8 octets = octets
field_octets name field.Number16 octets = octets
field_octets name field.Number32 octets = octets
field_octets name field.Tag octets = octets

-- fields one after another, and what stands behind them
abbrev pub fields_octets : (name : List (List ℕ)) → List Field → List ℕ → List ℕ
fields_octets name [] octets = octets
fields_octets name (first ∷ fields) octets =
    field_octets name first (take (field_size first octets) octets)
    ++ fields_octets name fields (drop (field_size first octets) octets)

-- data of this type, whose octets have the names whole
abbrev pub data_octets : (name : List (List ℕ)) → RType → List ℕ → List ℕ
data_octets name rtype rdata = if has_pointers rtype then fields_octets name (fields_of rtype) rdata else rdata
