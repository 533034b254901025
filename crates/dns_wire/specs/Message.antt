-- A reply to a query, and its octets (RFC 1035, 4.1; RFC 6891, 6.1).
use Rattle.std.specs.Prelude.{ℕ, ◌+◌, ◌*◌, ◌/◌, ◌%◌, List, [], ◌∷◌, ◌++◌, length, Bool, true, false, nat_le, Option, None, Some, if◌then◌else◌}
use Rattle.std.specs.List.{flat_map}
use Rattle.octets.specs.Numbers.{two_octets, four_octets}
use Rattle.rdata_layout.specs.declared.types.RType.{RType}
use Rattle.rdata_layout.specs.Types.{number_of}
use Rattle.dns_message.specs.Edns.{EdnsOption}
use Rattle.dns_wire.specs.declared.header.Header.{Header}
use Rattle.dns_wire.specs.Data.{data_octets}
use Rattle.dns_wire.specs.Header.{bit_of, header_octets}
use Rattle.dns_wire.specs.Pointers.{name_octets}

-- A record of class IN (RFC 1035, 4.1.3). Its data are the octets of a value whose names are whole and in lower case.
pub record Record : Type 0 where
  pub owner : List (List ℕ)
  pub rtype : RType
  pub ttl : ℕ
  pub rdata : List ℕ

-- An OPT record of version 0 (RFC 6891, 6.1): the size of messages that the sender takes, DO, and options.
pub record Opt : Type 0 where
  pub size : ℕ
  pub dnssec_ok : Bool
  pub options : List EdnsOption

-- A reply to a query: the fields of its header that the counts don't give, the question's name and octets, the records of the
-- three sections, and an OPT record or none. That stands last in the additional section.
pub record Message : Type 0 where
  pub id : ℕ
  pub aa : Bool
  pub rd : Bool
  pub rcode : ℕ
  pub name : List (List ℕ)
  pub question : List ℕ
  pub answers : List Record
  pub authorities : List Record
  pub additionals : List Record
  pub opt : Option Opt

-- the records of all sections but the OPT record, in their order
abbrev pub records_of : Message → List Record
records_of m = m.answers ++ (m.authorities ++ m.additionals)

-- type, class IN, TTL, and how many octets of data follow
abbrev pub fixed_octets : RType → (ttl len : ℕ) → List ℕ
fixed_octets rtype ttl len = two_octets (number_of rtype) ++ (0 ∷ 1 ∷ four_octets ttl) ++ two_octets len

-- a record: its owner, those, and its data, where `name` is the name in the question
abbrev pub record_octets : (name : List (List ℕ)) → Record → List ℕ
record_octets name r =
    name_octets name r.owner
    ++ (fixed_octets r.rtype r.ttl (length (data_octets name r.rtype r.rdata)) ++ data_octets name r.rtype r.rdata)

-- the octets of records, one after another
abbrev pub records_octets : (name : List (List ℕ)) → List Record → List ℕ
records_octets name records = flat_map (record_octets name) records

-- an option: its code, the length of its data, and those (RFC 6891, 6.1.2)
abbrev pub option_octets : EdnsOption → List ℕ
option_octets o = two_octets o.code ++ (two_octets (length o.body) ++ o.body)

-- The OPT record before its options: the root, TYPE 41, the size as CLASS; as TTL the upper eight bits of RCODE, VERSION 0, and DO
-- as the first of 16 flags; then the length of the options (6.1.2 and 6.1.3).
abbrev pub fixed_opt_octets : (rcode size : ℕ) → (dnssec_ok : Bool) → (options_len : ℕ) → List ℕ
fixed_opt_octets rcode size dnssec_ok options_len =
    (0 ∷ 0 ∷ 41 ∷ two_octets size)
    ++ ((rcode / 16) ∷ 0 ∷ (128 * bit_of dnssec_ok) ∷ 0 ∷ two_octets options_len)

abbrev pub opt_octets : (rcode : ℕ) → Option Opt → List ℕ
opt_octets rcode None = []
opt_octets rcode (Some opt) =
    fixed_opt_octets rcode opt.size opt.dnssec_ok (length (flat_map option_octets opt.options))
    ++ flat_map option_octets opt.options

-- how many records the OPT record is
abbrev pub opt_count : Option Opt → ℕ
opt_count None = 0
opt_count (Some opt) = 1

-- The header, with TC or without. It has the lower four bits of RCODE.
abbrev pub header_of : (tc : Bool) → Message → Header
header_of tc m = record {
  id = m.id;
  opcode = 0;
  aa = m.aa;
  tc = tc;
  rd = m.rd;
  rcode = m.rcode % 16;
  qdcount = 1;
  ancount = length m.answers;
  nscount = length m.authorities;
  arcount = length m.additionals + opt_count m.opt;
}

-- the header, the question, the records one after another, and the OPT record
abbrev pub octets_of : (tc : Bool) → Message → List ℕ
octets_of tc m =
    header_octets (header_of tc m)
    ++ (m.question ++ (records_octets m.name (records_of m) ++ opt_octets m.rcode m.opt))

-- the same reply without its records
abbrev pub without_records : Message → Message
without_records m = record m { answers = []; authorities = []; additionals = [] }

-- A reply's octets, where it may have so many. One that has more is truncated: it has TC, and of its records the OPT record alone (own).
unfoldable pub octets_within : Message → (limit : ℕ) → List ℕ
octets_within m limit = if nat_le (length (octets_of false m)) limit then octets_of false m else octets_of true (without_records m)
