-- The one record of `once`, and the replies that it gives.
use Rattle.std.specs.Prelude.{◌≡◌, ◌≢◌, ℕ, ◌^◌, ◌<◌, ◌⊎◌, List, [], ◌∷◌, slice_index, codes, true, false, Ok}
use Rattle.std.specs.List.{All}
use Rattle.std.specs.Fmt.{decimal}
use Rattle.dns_name.specs.Text.{name_of_text}
use Rattle.value_text.specs.Fields.{is_blank}
use Rattle.rdata_layout.specs.declared.types.RType.TheVariants.{A}
use Rattle.rdata.specs.Datum.{Datum}
use Rattle.rdata.specs.Reading.{Reads}
use Rattle.dns_message.specs.declared.query.Query.{Query}
use Rattle.dns_message.specs.declared.query.QueryRead.{QueryRead}
use Rattle.dns_message.specs.declared.query.QueryRead.TheVariants as read
use Rattle.dns_message.specs.Judge.{Judges}
use Rattle.dns_wire.specs.Draft.{reply_to}
use Rattle.dns_wire.specs.Header.{short_reply}
use Rattle.dns_wire.specs.Limit.{limit_of, refusal_of, version_refusal_of}
use Rattle.dns_wire.specs.Message.{Message, octets_within}
use Rattle.r53_cli.specs.declared.once.Once.{Once}

-- a word that is no option
abbrev pub IsPlain : List ℕ → Type 0
IsPlain word = slice_index word 0 ≢ 0x2D

-- An address: a text without a blank that reads as a value of type A.
pub record IsAddress (text : List ℕ) (address : Datum) : Type 0 where
  pub whole : All (λ byte. is_blank byte ≡ false) text
  pub rtype_is : address.rtype ≡ A
  pub reads : Reads A text (Ok address.wire)

-- The texts of a record: a name, a number of seconds below 2^31 in decimal digits without leading zeros, and an address.
pub record Spells (name ttl address : List ℕ) (once : Once) : Type 0 where
  pub name_is : name_of_text name ≡ Ok once.name
  pub ttl_is : ttl ≡ decimal once.ttl
  pub ttl_fits : once.ttl < 2 ^ 31
  pub address_is : IsAddress address once.address

-- The words `once NAME TTL ADDRESS`. No word begins with a hyphen.
pub record IsOnce (words : List (List ℕ)) (once : Once) : Type 0 where
  pub plain : All IsPlain words
  pub name : List ℕ
  pub ttl : List ℕ
  pub address : List ℕ
  pub form : words ≡ codes "once" ∷ name ∷ ttl ∷ address ∷ []
  pub spelled : Spells name ttl address once

-- the words of `once` with some record
abbrev pub HasOnce : List (List ℕ) → Type 0
HasOnce words = (once : Once) × IsOnce words once

-- words that are not those of `once` with any record
abbrev pub HasNoOnce : List (List ℕ) → Type 0
HasNoOnce words = (once : Once) → IsOnce words once → ⊥

-- The query asks for the record: its name, type A (1) and class IN (1).
pub record IsAsked (once : Once) (query : Query) : Type 0 where
  pub name : query.name ≡ once.name
  pub rtype : query.qtype ≡ 1
  pub rclass : query.qclass ≡ 1

-- the record as an answer, with AA set
abbrev pub answer_of : Once → Query → Message
answer_of once query = record (reply_to query) {
  aa = true;
  answers = record { owner = query.name; rtype = once.address.rtype; ttl = once.ttl; rdata = once.address.wire } ∷ [];
}

-- the octets of the reply to a query: the answer, or REFUSED to every other question
abbrev pub RepliesTo : Once → Query → List ℕ → Type 0
RepliesTo once query output =
    (IsAsked once query × (output ≡ octets_within (answer_of once query) (limit_of query.edns)))
    ⊎ ((IsAsked once query → ⊥) × (output ≡ octets_within (refusal_of query) (limit_of query.edns)))

-- the octets of the reply to what was read; silence is none
abbrev pub Replies : Once → QueryRead → List ℕ → Type 0
Replies once read.Silent output = output ≡ []
Replies once (read.Bad id opcode rd rcode) output = output ≡ short_reply id opcode rd rcode
Replies once (read.BadVersion query) output = output ≡ octets_within (version_refusal_of query) (limit_of query.edns)
Replies once (read.Query query) output = RepliesTo once query output

-- the octets of the reply to a packet
pub record Answers (once : Once) (packet output : List ℕ) : Type 0 where
  pub read : QueryRead
  pub judged : Judges packet read
  pub replied : Replies once read output
