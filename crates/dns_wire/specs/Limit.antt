-- How many octets a reply over UDP may have, and the replies that refuse a query.
use Rattle.std.specs.Prelude.{ℕ, min, max, Option, None, Some}
use Rattle.dns_message.specs.declared.query.Edns.{Edns}
use Rattle.dns_message.specs.declared.query.Query.{Query}
use Rattle.dns_wire.specs.Draft.{reply_to}
use Rattle.dns_wire.specs.Message.{Message}

-- 512 without EDNS (RFC 1035, 4.2.1), else what the client takes, 512 at least (RFC 6891, 6.2.3) and 4,096 at most (own)
abbrev pub limit_of : Option Edns → ℕ
limit_of None = 512
limit_of (Some edns) = max 512 (min edns.size 4096)

-- REFUSED (5), without a record
abbrev pub refusal_of : Query → Message
refusal_of query = record (reply_to query) { rcode = 5 }

-- BADVERS (16), without a record: the query is of a newer version of EDNS (RFC 6891, 6.1.3)
abbrev pub version_refusal_of : Query → Message
version_refusal_of query = record (reply_to query) { rcode = 16 }
