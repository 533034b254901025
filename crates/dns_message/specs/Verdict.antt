-- A verdict with the query that it is about.
use Rattle.dns_message.specs.declared.query.Query.{Query}
use Rattle.dns_message.specs.declared.query.QueryRead.{QueryRead}
use Rattle.dns_message.specs.declared.query.QueryRead.TheVariants as read
use Rattle.dns_message.specs.declared.verdict.Verdict.{Verdict}
use Rattle.dns_message.specs.declared.verdict.Verdict.TheVariants as verdict

-- what is read of a packet
abbrev pub read_as : Verdict → Query → QueryRead
read_as verdict.Silent query = read.Silent
read_as (verdict.Bad id opcode rd rcode) query = read.Bad id opcode rd rcode
read_as verdict.BadVersion query = read.BadVersion query
read_as verdict.Query query = read.Query query
