-- The reply to a packet.
use Rattle.std.specs.Prelude.{◌≡◌, ℕ, List, Bool, not, ◌||◌, ◌==◌, max, Option, None, Some}
use Rattle.std.specs.Prelude.{if◌then◌else◌}
use Rattle.address_text.specs.declared.address.IpAddress.{IpAddress}
use Rattle.cidr_blocks.specs.declared.places.Collection.{Collection}
use Rattle.dns_wire.specs.Judge.{Judges}
use Rattle.dns_wire.specs.Whole.{subnet_of}
use Rattle.dns_wire.specs.QueryRecord.{Query}
use Rattle.dns_wire.specs.QueryReadRecord.{QueryRead}
use Rattle.dns_wire.specs.QueryReadRecord.TheVariants as read
use Rattle.dns_wire.specs.Draft.{opt_of, reply_to}
use Rattle.dns_wire.specs.Header.{short_reply}
use Rattle.dns_wire.specs.Limit.{limit_of, refusal_of, version_refusal_of}
use Rattle.dns_wire.specs.Message.{Message, octets_within}
use Rattle.ecs_option.specs.declared.subnet.ClientSubnet.{ClientSubnet}
use Rattle.choice_model.specs.TablesRecord.{Tables}
use Rattle.zone_model.specs.SetKeyRecord.{SetKey}
use Rattle.answer_model.specs.declared.used.Used.{Used}
use Rattle.answer_model.specs.Clients.{Client, client_address, client_with}
use Rattle.answer_model.specs.Sections.{Lookup, Sections, sections}
use Rattle.zone_model.specs.Hosted.{HostedZone}
use Rattle.answer_model.specs.Zones.{zone_for}

-- What queries are answered from: the zones and the collections of address blocks, the test of
-- healthy sets by the zone's number and the set's key, and the tables of places and latencies.
pub record Served : Type 0 where
  pub zones : List HostedZone
  pub collections : List (ℕ × Collection)
  pub healthy : (zone : ℕ) → SetKey → Bool
  pub tables : Tables

-- Who asks, and what is drawn for the query: the address from which the packet came, and eight
-- words.
pub record Asker : Type 0 where
  pub peer : IpAddress
  pub words : List ℕ

-- ---- the scope (RFC 7871, 7.2.1)

-- a table's scope where it was used
abbrev pub if_used : Bool → (scope : ℕ) → ℕ
if_used was_used scope = if was_used then scope else 0

-- the largest scope of the tables and the collections that were used
abbrev pub scope_of : Client → Used → ℕ
scope_of client used =
    max (if_used used.places client.places)
    (max (if_used used.latencies client.latencies) used.blocks)

-- It is told to a query that tells a subnet of a source length above 0.
abbrev pub told_scope : Option ClientSubnet → Client → Used → ℕ
told_scope None client used = 0
told_scope (Some subnet) client used = if subnet.source == 0 then 0 else scope_of client used

-- ---- the message

-- types that aren't answered: IXFR (RFC 1995, 2), AXFR and `*` (RFC 1035, 3.2.3)
abbrev pub is_refused_type : (qtype : ℕ) → Bool
is_refused_type qtype = qtype == 251 || qtype == 252 || qtype == 255

-- another class than IN, or such a type
abbrev pub is_refused : Query → Bool
is_refused query = not (query.qclass == 1) || is_refused_type query.qtype

abbrev pub client_of : Served → (peer : IpAddress) → Query → Client
client_of served peer query =
    client_with served.tables served.collections (client_address (subnet_of query.edns) peer)

abbrev pub lookup_of : Served → (words : List ℕ) → Query → Client → HostedZone → Lookup
lookup_of served words query client zone = record {
  zones = served.zones;
  zone = zone;
  means = record { healthy = served.healthy zone.id; client = client; words = words };
  qtype = query.qtype;
}

-- the reply with these sections
abbrev pub with_sections : Query → Client → Sections → Message
with_sections query client found = record (reply_to query) {
  aa = found.aa;
  rcode = found.rcode;
  answers = found.answers;
  authorities = found.authorities;
  additionals = found.additionals;
  opt = opt_of query.edns (told_scope (subnet_of query.edns) client found.used);
}

-- in the zone of the longest name; REFUSED (5) where no zone holds the name
abbrev pub zone_reply : Served → Asker → Query → Option HostedZone → Message
zone_reply served asker query None = refusal_of query
zone_reply served asker query (Some zone) =
    with_sections query (client_of served asker.peer query)
    (sections
    (lookup_of served asker.words query (client_of served asker.peer query) zone)
    query.name)

-- The reply to a query of EDNS version 0 or without EDNS.
abbrev pub query_reply : Served → Asker → Query → Message
query_reply served asker query =
    if is_refused query then refusal_of query
    else zone_reply served asker query (zone_for served.zones query.name)

-- ---- the octets

-- what is answered to what was read of a packet: octets over UDP, or nothing
abbrev pub reply_to_read : Served → Asker → QueryRead → Option (List ℕ)
reply_to_read served asker read.Silent = None
reply_to_read served asker (read.Bad id opcode rd rcode) = Some (short_reply id opcode rd rcode)
reply_to_read served asker (read.BadVersion query) =
    Some (octets_within (version_refusal_of query) (limit_of query.edns))
reply_to_read served asker (read.Query query) =
    Some (octets_within (query_reply served asker query) (limit_of query.edns))

-- The answer to a packet, as it is judged.
pub record Answers (served : Served) (asker : Asker) (packet : List ℕ)
    (answer : Option (List ℕ)) : Type 0 where
  pub judged : QueryRead
  pub judges : Judges packet judged
  pub answered : answer ≡ reply_to_read served asker judged
