-- A reply in the making.
use Rattle.std.specs.Prelude.{◌≡◌, ℕ, ◌+◌, ◌<◌, ◌≤◌, ◌⊎◌, List, [], ◌∷◌, ◌++◌, length, take, replicate, Bool, true, false, Option, None, Some, ⊤}
use Rattle.dns_message.specs.Writing.{data_of}
use Rattle.dns_message.specs.ClientSubnetRecord.{ClientSubnet}
use Rattle.dns_message.specs.Edns.{EdnsOption}
use Rattle.dns_message.specs.declared.query.Edns.{Edns}
use Rattle.dns_message.specs.declared.query.Query.{Query}
use Rattle.dns_wire.specs.declared.reply.Section.{Section}
use Rattle.dns_wire.specs.declared.reply.Section.TheVariants.{Answer, Authority, Additional}
use Rattle.dns_wire.specs.Message.{Message, Opt, Record, records_octets, records_of}

-- The options of a reply: the client subnet that the query told, with this scope (RFC 7871, 7.2.1).
abbrev pub options_of : Option ClientSubnet → (scope : ℕ) → List EdnsOption
options_of None scope = []
options_of (Some subnet) scope = record { code = 8; body = data_of subnet scope } ∷ []

-- The OPT record of a reply to a query that has one: the server takes 4,096 octets (own), and DO is copied (RFC 3225, 3).
abbrev pub opt_of : Option Edns → (scope : ℕ) → Option Opt
opt_of None scope = None
opt_of (Some edns) scope =
    Some (record { size = 4096; dnssec_ok = edns.dnssec_ok; options = options_of edns.subnet scope })

-- Its room, what the query gave, where the question ends, whether the records were truncated, how many each section has, and
-- the octets so far. Those begin with 12 that the header will have.
pub record Draft : Type 0 where
  pub room : ℕ
  pub id : ℕ
  pub rd : Bool
  pub name : List (List ℕ)
  pub edns : Option Edns
  pub question_end : ℕ
  pub is_truncated : Bool
  pub answers : ℕ
  pub authorities : ℕ
  pub additionals : ℕ
  pub bytes : List ℕ

-- the reply to a query before it has a record, without AA, with RCODE 0 and scope 0
abbrev pub reply_to : Query → Message
reply_to query = record {
  id = query.id;
  aa = false;
  rd = query.rd;
  rcode = 0;
  name = query.name;
  question = take query.question_len query.question;
  answers = [];
  authorities = [];
  additionals = [];
  opt = opt_of query.edns 0;
}

-- no record stands in a later section
abbrev pub Follows : Section → Message → Type 0
Follows Answer m = (m.authorities ≡ []) × (m.additionals ≡ [])
Follows Authority m = m.additionals ≡ []
Follows Additional m = ⊤

-- with one record more at the end of a section
abbrev pub with_record : Section → Record → Message → Message
with_record Answer r m = record m { answers = m.answers ++ r ∷ [] }
with_record Authority r m = record m { authorities = m.authorities ++ r ∷ [] }
with_record Additional r m = record m { additionals = m.additionals ++ r ∷ [] }

-- with these records more at the end of a section
abbrev pub with_records : Section → List Record → Message → Message
with_records Answer records m = record m { answers = m.answers ++ records }
with_records Authority records m = record m { authorities = m.authorities ++ records }
with_records Additional records m = record m { additionals = m.additionals ++ records }

-- how many octets a reply with all its records has, the OPT record left out
abbrev pub size_of : Message → ℕ
size_of m = 12 + (length m.question + length (records_octets m.name (records_of m)))

-- it holds all records
pub record HoldsAll (m : Message) (d : Draft) : Type 0 where
  pub fits : size_of m ≤ d.room
  pub untruncated : d.is_truncated ≡ false
  pub answers : d.answers ≡ length m.answers
  pub authorities : d.authorities ≡ length m.authorities
  pub additionals : d.additionals ≡ length m.additionals
  pub bytes : d.bytes ≡ replicate 12 0 ++ (m.question ++ records_octets m.name (records_of m))

-- it holds none
pub record IsEmptied (m : Message) (d : Draft) : Type 0 where
  pub is_truncated : d.is_truncated ≡ true
  pub answers : d.answers ≡ 0
  pub authorities : d.authorities ≡ 0
  pub additionals : d.additionals ≡ 0
  pub bytes : d.bytes ≡ replicate 12 0 ++ m.question

-- the records don't fit
pub record HoldsNone (m : Message) (d : Draft) : Type 0 where
  pub longer : d.room < size_of m
  pub emptied : IsEmptied m d

-- It stands for this reply, of which AA, RCODE and the scope come at the end.
pub record StandsFor (m : Message) (d : Draft) : Type 0 where
  pub id : d.id ≡ m.id
  pub rd : d.rd ≡ m.rd
  pub name : d.name ≡ m.name
  pub opt : m.opt ≡ opt_of d.edns 0
  pub question : d.question_end ≡ 12 + length m.question
  pub records : HoldsAll m d ⊎ HoldsNone m d
