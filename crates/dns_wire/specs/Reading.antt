-- How a message is read (RFC 1035, 4.1; RFC 6891, 6.1). It doesn't say how one is written.
use Rattle.std.specs.Prelude.{◌≡◌, ℕ, ◌+◌, ◌*◌, ◌/◌, ◌%◌, ◌<◌, ◌==◌, List, [], ◌∷◌, ◌++◌, length, map, drop, slice_index, Bool, Option, None, Some}
use Rattle.std.specs.Char.{to_ascii_lowercase}
use Rattle.octets.specs.Numbers.{number_at}
use Rattle.rdata_layout.specs.Labels.{frame, wire, IsRawLabel}
use Rattle.dns_message.specs.Edns.{AreOptions, dnssec_ok_of, version_of}
use Rattle.dns_message.specs.Records.{AnyRecord, BeginsWithRecord}
use Rattle.dns_message.specs.Header.{id_of, qr_of, opcode_of, rd_of, qdcount_of, ancount_of, nscount_of, arcount_of}
use Rattle.rdata_layout.specs.declared.types.RType.{RType}
use Rattle.rdata_layout.specs.declared.types.RType.TheVariants.{A, Ns, Cname, Soa, Ptr, Mx, Txt, Aaaa, Srv, Spf, Caa}
use Rattle.rdata_layout.specs.declared.fields.Field.{Field}
use Rattle.rdata_layout.specs.declared.fields.Field.TheVariants as field
use Rattle.rdata_layout.specs.Fields.{IsField}
use Rattle.rdata_layout.specs.Layout.{fields_of}
use Rattle.rdata_layout.specs.Types.{number_of}
use Rattle.dns_wire.specs.Message.{Message, Opt, Record, opt_count}

-- these octets stand at a place of the message
pub record StandsAt (message : List ℕ) (place : ℕ) (piece : List ℕ) : Type 0 where
  pub front : List ℕ
  pub rest : List ℕ
  pub size : length front ≡ place
  pub there : message ≡ front ++ (piece ++ rest)

-- a pointer: two bits of one, and the 14 bits of a place (4.1.4)
abbrev pub pointer_octets : (target : ℕ) → List ℕ
pointer_octets target = (192 + target / 256) ∷ (target % 256) ∷ []

-- A name at a place of the message, and where what stands behind it begins (3.1 and 4.1.4): the zero octet of the root; or a
-- label and a name; or a pointer to a name at an earlier place. Labels are read in lower case (2.3.3).
pub data NameAt (message : List ℕ) : (place : ℕ) → (labels : List (List ℕ)) → (next : ℕ) → Type 0 where
  ends : (place : ℕ) → StandsAt message place (0 ∷ []) → NameAt message place [] (place + 1)
  goes_on : (place next : ℕ) (label : List ℕ) (labels : List (List ℕ)) → IsRawLabel label → StandsAt message place (frame label) → NameAt message (place + length (frame label)) labels next → NameAt message place (map to_ascii_lowercase label ∷ labels) next
  points : (place target next : ℕ) (labels : List (List ℕ)) → target < place → StandsAt message place (pointer_octets target) → NameAt message target labels next → NameAt message place labels (place + 2)

-- octets as they stand in the message
pub record PlainAt (message : List ℕ) (place : ℕ) (octets : List ℕ) (next : ℕ) : Type 0 where
  pub stands : StandsAt message place octets
  pub size : next ≡ place + length octets

-- a name that may have a pointer, as the octets of the whole name
pub record WholeNameAt (message : List ℕ) (place : ℕ) (octets : List ℕ) (next : ℕ) : Type 0 where
  pub labels : List (List ℕ)
  pub name : NameAt message place labels next
  pub spelled : octets ≡ wire labels

-- a field of data with names that may have pointers
abbrev pub FieldAt : (message : List ℕ) → Field → (place : ℕ) → (octets : List ℕ) → (next : ℕ) → Type 0
FieldAt message field.Name place octets next = WholeNameAt message place octets next
FieldAt message field.Ipv4 place octets next = IsField field.Ipv4 octets × PlainAt message place octets next
FieldAt message field.Ipv6 place octets next = IsField field.Ipv6 octets × PlainAt message place octets next
FieldAt message field.Number8 place octets next = IsField field.Number8 octets × PlainAt message place octets next
FieldAt message field.Number16 place octets next = IsField field.Number16 octets × PlainAt message place octets next
FieldAt message field.Number32 place octets next = IsField field.Number32 octets × PlainAt message place octets next
FieldAt message field.Tag place octets next = IsField field.Tag octets × PlainAt message place octets next

-- fields one after another, with nothing behind them
abbrev pub FieldsAt : (message : List ℕ) → List Field → (place : ℕ) → (octets : List ℕ) → (end : ℕ) → Type 0
FieldsAt message [] place octets end = (octets ≡ []) × (end ≡ place)
FieldsAt message (first ∷ fields) place octets end =
    (piece rest : List ℕ) × (next : ℕ)
    × FieldAt message first place piece next
    × (octets ≡ piece ++ rest)
    × FieldsAt message fields next rest end

-- The data of a record up to a place: names in NS, CNAME, SOA, PTR and MX may have pointers (3.3), and all other data are read
-- as they stand.
abbrev pub DataAt : (message : List ℕ) → RType → (place : ℕ) → (octets : List ℕ) → (end : ℕ) → Type 0
DataAt message A place octets end = PlainAt message place octets end
DataAt message Ns place octets end = FieldsAt message (fields_of Ns) place octets end
DataAt message Cname place octets end = FieldsAt message (fields_of Cname) place octets end
DataAt message Soa place octets end = FieldsAt message (fields_of Soa) place octets end
DataAt message Ptr place octets end = FieldsAt message (fields_of Ptr) place octets end
DataAt message Mx place octets end = FieldsAt message (fields_of Mx) place octets end
DataAt message Txt place octets end = PlainAt message place octets end
DataAt message Aaaa place octets end = PlainAt message place octets end
DataAt message Srv place octets end = PlainAt message place octets end
DataAt message Spf place octets end = PlainAt message place octets end
DataAt message Caa place octets end = PlainAt message place octets end

-- a record at a place (4.1.3): its owner, TYPE, CLASS IN (1), TTL, RDLENGTH and RDATA
pub record RecordAt (message : List ℕ) (place : ℕ) (r : Record) (next : ℕ) : Type 0 where
  pub behind : ℕ
  pub owner : NameAt message place r.owner behind
  pub rtype : number_at message behind ≡ number_of r.rtype
  pub class : number_at message (behind + 2) ≡ 1
  pub ttl : number_at message (behind + 4) * 65536 + number_at message (behind + 6) ≡ r.ttl
  pub rdlength : next ≡ behind + 10 + number_at message (behind + 8)
  pub rdata : DataAt message r.rtype (behind + 10) r.rdata next

-- records one after another
abbrev pub RecordsAt : (message : List ℕ) → (place : ℕ) → List Record → (end : ℕ) → Type 0
RecordsAt message place [] end = end ≡ place
RecordsAt message place (r ∷ records) end = (next : ℕ) × RecordAt message place r next × RecordsAt message next records end

-- The OPT record at the end of a message (RFC 6891, 6.1): it is of version 0, and has these upper eight bits of RCODE.
pub record OptAt (message : List ℕ) (place : ℕ) (opt : Opt) (upper : ℕ) : Type 0 where
  pub as_record : AnyRecord
  pub size : ℕ
  pub there : BeginsWithRecord (drop place message) as_record size
  pub last : place + size ≡ length message
  pub owner : as_record.owner ≡ 0 ∷ []
  pub rtype : as_record.rtype ≡ 41
  pub payload : as_record.class ≡ opt.size
  pub upper_is : as_record.ttl / 16777216 ≡ upper
  pub version : version_of as_record ≡ 0
  pub dnssec_ok : dnssec_ok_of as_record ≡ opt.dnssec_ok
  pub options : AreOptions as_record.rdata opt.options

-- it, or the end of the message
abbrev pub OptOrEnd : (message : List ℕ) → (place : ℕ) → Option Opt → (upper : ℕ) → Type 0
OptOrEnd message place None upper = (place ≡ length message) × (upper ≡ 0)
OptOrEnd message place (Some opt) upper = OptAt message place opt upper

-- AA, TC and the lower four bits of RCODE (4.1.1)
abbrev pub aa_of : List ℕ → Bool
aa_of message = slice_index message 2 / 4 % 2 == 1

abbrev pub tc_of : List ℕ → Bool
tc_of message = slice_index message 2 / 2 % 2 == 1

abbrev pub lower_rcode_of : List ℕ → ℕ
lower_rcode_of message = slice_index message 3 % 16

-- The octets are read as this reply with this TC, and with nothing behind it: the fields of the header; the question, whose
-- name is followed by type and class; as many records in each section as its count says; and at the end an OPT record or none.
pub record Reads (message : List ℕ) (truncated : Bool) (m : Message) : Type 0 where
  pub id : id_of message ≡ m.id
  pub response : qr_of message ≡ 1
  pub opcode : opcode_of message ≡ 0
  pub aa : aa_of message ≡ m.aa
  pub tc : tc_of message ≡ truncated
  pub rd : rd_of message ≡ m.rd
  pub questions : qdcount_of message ≡ 1
  pub answer_count : ancount_of message ≡ length m.answers
  pub authority_count : nscount_of message ≡ length m.authorities
  pub additional_count : arcount_of message ≡ length m.additionals + opt_count m.opt
  pub name_end : ℕ
  pub name : NameAt message 12 m.name name_end
  pub question : StandsAt message 12 m.question
  pub type_and_class : 12 + length m.question ≡ name_end + 4
  pub answers_end : ℕ
  pub authorities_end : ℕ
  pub additionals_end : ℕ
  pub answers : RecordsAt message (12 + length m.question) m.answers answers_end
  pub authorities : RecordsAt message answers_end m.authorities authorities_end
  pub additionals : RecordsAt message authorities_end m.additionals additionals_end
  pub upper : ℕ
  pub opt : OptOrEnd message additionals_end m.opt upper
  pub rcode : m.rcode ≡ upper * 16 + lower_rcode_of message
