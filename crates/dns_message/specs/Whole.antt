-- What every query that is read of a packet is.
use Rattle.std.specs.Prelude.{◌≡◌, ◌<◌, ◌≤◌, ◌⊎◌, ℕ, take, Option, None, Some, ⊤}
use Rattle.ecs_option.specs.Writing.{IsSubnet}
use Rattle.ecs_option.specs.declared.subnet.ClientSubnet.{ClientSubnet}
use Rattle.dns_message.specs.Question.{IsQuestion}
use Rattle.dns_message.specs.declared.query.Edns.{Edns}
use Rattle.dns_message.specs.declared.query.Query.{Query}
use Rattle.dns_message.specs.declared.query.QueryRead.{QueryRead}
use Rattle.dns_message.specs.declared.query.QueryRead.TheVariants as read

-- the client subnet, where one is told
abbrev pub subnet_of : Option Edns → Option ClientSubnet
subnet_of None = None
subnet_of (Some edns) = edns.subnet

-- a subnet that is told is one that an option's data tells
abbrev pub IsSubnetOrNone : Option ClientSubnet → Type 0
IsSubnetOrNone None = ⊤
IsSubnetOrNone (Some subnet) = IsSubnet subnet

-- Its question is one for its name, and its subnet, where it tells one, is a subnet.
pub record IsWhole (query : Query) : Type 0 where
  pub size : query.question_len ≤ 259
  pub question : IsQuestion query.name (take query.question_len query.question)
  pub subnet : IsSubnetOrNone (subnet_of query.edns)

-- the query has an OPT record
abbrev pub HasEdns : Option Edns → Type 0
HasEdns None = ⊥
HasEdns (Some edns) = ⊤

-- What a header says that answers a packet: the kind of query, in 4 bits, and Format error (1) where that is
-- a standard query, else Not Implemented (4) (RFC 1035, 4.1.1).
pub record IsHeaderReply (opcode rcode : ℕ) : Type 0 where
  pub kind : opcode < 16
  pub code : ((opcode ≡ 0) × (rcode ≡ 1)) ⊎ ((0 < opcode) × (rcode ≡ 4))

-- A query that was read is whole, and one of a newer version has an OPT record. What is no query is answered
-- by a header.
abbrev pub GivesWhole : QueryRead → Type 0
GivesWhole read.Silent = ⊤
GivesWhole (read.Bad id opcode rd rcode) = IsHeaderReply opcode rcode
GivesWhole (read.BadVersion query) = IsWhole query × HasEdns query.edns
GivesWhole (read.Query query) = IsWhole query
