-- How a packet is judged: by the first of the points below that holds, and as a query where none does.
use Rattle.std.specs.Prelude.{◌≡◌, ◌≢◌, ℕ, ◌+◌, ◌-◌, ◌<◌, ◌⊎◌, List, [], ◌∷◌, ◌++◌, length, take, drop, replicate, Bool, Option, ⊤}
use Rattle.octets.specs.Numbers.{number_at}
use Rattle.dns_message.specs.Edns.{AreProperOpts, HasMalformedSubnet, HasNewVersion, TellsEdns, opts_of}
use Rattle.dns_message.specs.Header.{id_of, qr_of, opcode_of, rd_of, HasQueryCounts}
use Rattle.dns_message.specs.Question.{HasNoQuestion}
use Rattle.dns_message.specs.Records.{Split, SplitsAs}
use Rattle.dns_message.specs.declared.query.Edns.{Edns}
use Rattle.dns_message.specs.declared.query.Query.{Query}
use Rattle.dns_message.specs.declared.query.QueryRead.{QueryRead}
use Rattle.dns_message.specs.declared.query.QueryRead.TheVariants as read

-- what a packet is judged by
pub data Point : Type 0 where
  Unheard Kind Counts Question Additionals Version Subnet : Point

-- a split of the packet has this
abbrev pub WithSplit : (Split → Type 0) → List ℕ → Type 0
WithSplit Has packet = (split : Split) × SplitsAs packet split × Has split

-- When a point holds of a packet.
-- Unheard: it is shorter than a header, or a response. Kind: it is another kind of query than a standard one. Counts: it has other
-- counts than those of one question. Question: it lacks a whole question. Additionals: its additional records aren't whole, or the
-- OPT records among them aren't as they have to be. Version: it asks for a newer version of EDNS than 0. Subnet: its client subnet
-- is malformed.
abbrev pub HoldsOf : Point → List ℕ → Type 0
HoldsOf Unheard packet = (length packet < 12) ⊎ (qr_of packet ≡ 1)
HoldsOf Kind packet = opcode_of packet ≢ 0
HoldsOf Counts packet = HasQueryCounts packet → ⊥
HoldsOf Question packet = HasNoQuestion packet
HoldsOf Additionals packet = (split : Split) → SplitsAs packet split → AreProperOpts (opts_of split.records) → ⊥
HoldsOf Version packet = WithSplit (λ split. HasNewVersion (opts_of split.records)) packet
HoldsOf Subnet packet = WithSplit (λ split. HasMalformedSubnet (opts_of split.records)) packet

-- all points, in the order in which they are looked at
abbrev pub points : List Point
points = Unheard ∷ Kind ∷ Counts ∷ Question ∷ Additionals ∷ Version ∷ Subnet ∷ []

-- none of these holds
abbrev pub NoneHolds : List Point → List ℕ → Type 0
NoneHolds [] packet = ⊤
NoneHolds (first ∷ others) packet = (HoldsOf first packet → ⊥) × NoneHolds others packet

-- It holds, and is the first of these that does.
abbrev pub IsFirst : List Point → Point → List ℕ → Type 0
IsFirst [] point packet = ⊥
IsFirst (first ∷ others) point packet =
    (HoldsOf first packet × (point ≡ first)) ⊎ ((HoldsOf first packet → ⊥) × IsFirst others point packet)

-- The response code of the header that answers a point: Format error (1) or Not Implemented (4) (RFC 1035, 4.1.1). The other
-- points are answered otherwise.
abbrev pub IsAnsweredBy : Point → (rcode : ℕ) → Type 0
IsAnsweredBy Unheard rcode = ⊥
IsAnsweredBy Kind rcode = rcode ≡ 4
IsAnsweredBy Counts rcode = rcode ≡ 1
IsAnsweredBy Question rcode = rcode ≡ 1
IsAnsweredBy Additionals rcode = rcode ≡ 1
IsAnsweredBy Version rcode = ⊥
IsAnsweredBy Subnet rcode = rcode ≡ 1

-- a packet that a header answers, as the fields of that
pub record IsBad (packet : List ℕ) (id opcode : ℕ) (rd : Bool) (rcode : ℕ) : Type 0 where
  pub point : Point
  pub first : IsFirst points point packet
  pub code : IsAnsweredBy point rcode
  pub same_id : id ≡ id_of packet
  pub same_opcode : opcode ≡ opcode_of packet
  pub same_rd : rd ≡ rd_of packet

-- the query of a packet whose question has these labels and n octets, and whose OPT record tells this
abbrev pub query_of : List ℕ → (labels : List (List ℕ)) → (n : ℕ) → Option Edns → Query
query_of packet labels n edns = record {
  id = id_of packet;
  rd = rd_of packet;
  question = take n (drop 12 packet) ++ replicate (259 - n) 0;
  question_len = n;
  name = labels;
  qtype = number_at packet (8 + n);
  qclass = number_at packet (10 + n);
  edns = edns;
}

-- the query that a packet has
pub record HasQuery (packet : List ℕ) (query : Query) : Type 0 where
  pub split : Split
  pub splits : SplitsAs packet split
  pub edns : TellsEdns (opts_of split.records) query.edns
  pub fields : query ≡ query_of packet split.name split.question_len query.edns

-- what is read of a packet
abbrev pub Judges : List ℕ → QueryRead → Type 0
Judges packet read.Silent = IsFirst points Unheard packet
Judges packet (read.Bad id opcode rd rcode) = IsBad packet id opcode rd rcode
Judges packet (read.BadVersion query) = IsFirst points Version packet × HasQuery packet query
Judges packet (read.Query query) = NoneHolds points packet × HasQuery packet query
