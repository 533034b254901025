-- Policies, aliases and locations within answers.
use Rattle.std.proofs.Common.{◌≡◌, ℕ, Bool, true, false, Some, None, Option, List, [], ◌∷◌, ◌++◌}
use Rattle.std.proofs.Common.{refl, replicate}
use Rattle.std.specs.Prelude.{codes, map, not, ◌+◌, ◌==◌, ◌&&◌}
use Rattle.std.specs.List.{list_any}
use Rattle.std.specs.Str.{bytes_eq}
use Rattle.address_text.specs.declared.address.IpAddress.{IpAddress}
use Rattle.address_text.specs.declared.address.IpAddress.TheVariants.{V4, V6}
use Rattle.cidr_blocks.specs.declared.places.Collection.{Collection}
use Rattle.dns_wire.specs.EdnsRecord.{Edns}
use Rattle.dns_name.specs.Labels.{wire as name_wire}
use Rattle.dns_wire.specs.Message.{Record, octets_within}
use Rattle.ecs_option.specs.declared.subnet.ClientSubnet.{ClientSubnet}
use Rattle.choice_model.specs.LocationRecord.{Location}
use Rattle.cidr_blocks.specs.Bits.{number_of}
use Rattle.cidr_blocks.specs.Prefixes.{Prefix}
use Rattle.zone_model.specs.RTypeRecord.TheVariants as rtype
use Rattle.zone_model.specs.RecordSetRecord.{RecordSet}
use Rattle.zone_model.specs.SetKeyRecord.{SetKey}
use Rattle.routing.specs.declared.policies.Continent.TheVariants.{Eu, Na}
use Rattle.routing.specs.declared.policies.Place.TheVariants as place
use Rattle.routing.specs.declared.policies.Routing.TheVariants as routing
use Rattle.answer_model.specs.Clients.{client_address}
use Rattle.answer_model.specs.Descent.{Descended, descend, no_choices, unused, word_of}
use Rattle.answer_model.specs.Location.{scope_in, told_in}
use Rattle.answer_model.specs.Reply.{Asker, Served, query_reply}
use Rattle.answer_model.specs.Sections.{Sections, sections}
use Rattle.answer_model.proofs.Given.{alias, apex_soa, asker, example, net, query, routed, rr}
use Rattle.answer_model.proofs.Given.{serving, simple, within, www, zone_of}

-- ---- the location of an address

-- 198.51.0.0/16 is in the United States, and 198.51.200.0/24 in Germany
abbrev in_us : Location
in_us = record { continent = Na; country = Some (codes "US"); subdivision = None }

abbrev in_de : Location
in_de = record { continent = Eu; country = Some (codes "DE"); subdivision = None }

abbrev places : List (Prefix × Location)
places = (record { address = V4 (198 ∷ 51 ∷ 0 ∷ 0 ∷ []); length = 16 }, in_us)
    ∷ (record { address = V4 (198 ∷ 51 ∷ 200 ∷ 0 ∷ []); length = 24 }, in_de) ∷ []

abbrev us_client : IpAddress
us_client = V4 (198 ∷ 51 ∷ 100 ∷ 0 ∷ [])

told_us : told_in places us_client ≡ Some in_us
unfolding number_of
told_us = refl

told_de : told_in places (V4 (198 ∷ 51 ∷ 200 ∷ 9 ∷ [])) ≡ Some in_de
unfolding number_of
told_de = refl

told_none : told_in places (V4 (203 ∷ 0 ∷ 113 ∷ 1 ∷ [])) ≡ None
unfolding number_of
told_none = refl

-- the third octets of the two are 0110 0100 and 1100 1000: 17 bits tell the client apart from
-- Germany
scope_17 : scope_in places us_client ≡ 17
unfolding scope_in number_of
scope_17 = refl

scope_24 : scope_in places (V4 (198 ∷ 51 ∷ 200 ∷ 9 ∷ [])) ≡ 24
unfolding scope_in number_of
scope_24 = refl

-- 203 is 1100 1011, and 198 is 1100 0110: no row is inside 200.0.0.0/5
scope_5 : scope_in places (V4 (203 ∷ 0 ∷ 113 ∷ 1 ∷ [])) ≡ 5
unfolding scope_in number_of
scope_5 = refl

-- no row is of the other family
scope_0 : scope_in places (V6 (0x20 ∷ 0x01 ∷ replicate 14 0)) ≡ 0
unfolding scope_in number_of
scope_0 = refl

-- ---- the client's address

-- 198.51.100.0/24, and a subnet of no bits
abbrev subnet : ClientSubnet
subnet = record {
  family = 1;
  source = 24;
  address = 198 ∷ 51 ∷ 100 ∷ replicate 13 0;
}

abbrev no_bits : ClientSubnet
no_bits = record { family = 1; source = 0; address = replicate 16 0 }

abbrev peer : IpAddress
peer = asker.peer

of_subnet : client_address (Some subnet) peer ≡ us_client
of_subnet = refl

of_packet : client_address (Some no_bits) peer ≡ peer
of_packet = refl

without_subnet : client_address None peer ≡ peer
without_subnet = refl

abbrev subnet_6 : ClientSubnet
subnet_6 = record { family = 2; source = 16; address = 0x20 ∷ 0x01 ∷ replicate 14 0 }

of_subnet_6 : client_address (Some subnet_6) peer ≡ V6 (0x20 ∷ 0x01 ∷ replicate 14 0)
of_subnet_6 = refl

-- ---- geolocation, and the scope in the reply

abbrev placed : List RecordSet
placed = routed www rtype.A (routing.Geolocation (codes "de") (place.Country (codes "DE"))) 60
    (net 1 ∷ [])
    ∷ routed www rtype.A (routing.Geolocation (codes "us") (place.Country (codes "US"))) 60 (net 2
    ∷ []) ∷ []

abbrev with_places : List RecordSet → Served
with_places sets = record (serving sets) { tables = record { places = places; latencies = [] } }

abbrev asking : ClientSubnet → Option Edns
asking told = Some (record { size = 1232; dnssec_ok = false; subnet = Some told })

scope_told : octets_within (query_reply (with_places placed) asker (query www 1 (asking subnet))) 1232 ≡
    0x12 ∷ 0x34 ∷ 0x85 ∷ 0x00 ∷ 0x00 ∷ 0x01 ∷ 0x00 ∷ 0x01 ∷ 0x00 ∷ 0x00 ∷ 0x00 ∷ 0x01 ∷ 0x03 ∷
    0x77 ∷ 0x77 ∷ 0x77 ∷ 0x07 ∷ 0x65 ∷ 0x78 ∷ 0x61 ∷ 0x6D ∷ 0x70 ∷ 0x6C ∷ 0x65 ∷ 0x03 ∷ 0x63 ∷
    0x6F ∷ 0x6D ∷ 0x00 ∷ 0x00 ∷ 0x01 ∷ 0x00 ∷ 0x01 ∷ 0xC0 ∷ 0x0C ∷ 0x00 ∷ 0x01 ∷ 0x00 ∷ 0x01 ∷
    0x00 ∷ 0x00 ∷ 0x00 ∷ 0x3C ∷ 0x00 ∷ 0x04 ∷ 0xC0 ∷ 0x00 ∷ 0x02 ∷ 0x02 ∷ 0x00 ∷ 0x00 ∷ 0x29 ∷
    0x10 ∷ 0x00 ∷ 0x00 ∷ 0x00 ∷ 0x00 ∷ 0x00 ∷ 0x00 ∷ 0x0B ∷ 0x00 ∷ 0x08 ∷ 0x00 ∷ 0x07 ∷ 0x00 ∷
    0x01 ∷ 0x18 ∷ 0x11 ∷ 0xC6 ∷ 0x33 ∷ 0x64 ∷ []
unfolding octets_within sections descend scope_in number_of
scope_told = refl

-- of a simple group, and to a subnet of no bits, the scope is 0
scope_of_simple : octets_within (query_reply (with_places (simple www rtype.A 60 (net 2 ∷ []) ∷ [])) asker
    (query www 1 (asking subnet))) 1232 ≡
    0x12 ∷ 0x34 ∷ 0x85 ∷ 0x00 ∷ 0x00 ∷ 0x01 ∷ 0x00 ∷ 0x01 ∷ 0x00 ∷ 0x00 ∷ 0x00 ∷ 0x01 ∷ 0x03 ∷
    0x77 ∷ 0x77 ∷ 0x77 ∷ 0x07 ∷ 0x65 ∷ 0x78 ∷ 0x61 ∷ 0x6D ∷ 0x70 ∷ 0x6C ∷ 0x65 ∷ 0x03 ∷ 0x63 ∷
    0x6F ∷ 0x6D ∷ 0x00 ∷ 0x00 ∷ 0x01 ∷ 0x00 ∷ 0x01 ∷ 0xC0 ∷ 0x0C ∷ 0x00 ∷ 0x01 ∷ 0x00 ∷ 0x01 ∷
    0x00 ∷ 0x00 ∷ 0x00 ∷ 0x3C ∷ 0x00 ∷ 0x04 ∷ 0xC0 ∷ 0x00 ∷ 0x02 ∷ 0x02 ∷ 0x00 ∷ 0x00 ∷ 0x29 ∷
    0x10 ∷ 0x00 ∷ 0x00 ∷ 0x00 ∷ 0x00 ∷ 0x00 ∷ 0x00 ∷ 0x0B ∷ 0x00 ∷ 0x08 ∷ 0x00 ∷ 0x07 ∷ 0x00 ∷
    0x01 ∷ 0x18 ∷ 0x00 ∷ 0xC6 ∷ 0x33 ∷ 0x64 ∷ []
unfolding octets_within sections descend scope_in number_of
scope_of_simple = refl

-- no set applies to the client: no data, and the table counts as used
abbrev used_places : Sections → Bool
used_places found = found.used.places

none_applies : (query_reply (with_places placed) asker (query www 1 None)).authorities
    ≡ apex_soa ∷ []
unfolding octets_within sections descend scope_in number_of
none_applies = refl

no_answer : (query_reply (with_places placed) asker (query www 1 None)).answers ≡ []
unfolding octets_within sections descend scope_in number_of
no_answer = refl

none_used : used_places (sections (within (zone_of placed) 1) www) ≡ true
unfolding sections descend
none_used = refl

-- ---- latency

-- 198.51.100.0/24 has 20 ms to the regions a and b
abbrev latencies : List (Prefix × List (List ℕ × ℕ))
latencies = (
  record { address = V4 (198 ∷ 51 ∷ 100 ∷ 0 ∷ []); length = 24 },
  (codes "b", 20) ∷ (codes "a", 20) ∷ [],
) ∷ []

abbrev regions : List RecordSet
regions = routed www rtype.A (routing.Latency (codes "1") (codes "b")) 60 (net 1 ∷ [])
    ∷ routed www rtype.A (routing.Latency (codes "2") (codes "z")) 60 (net 2 ∷ [])
    ∷ routed www rtype.A (routing.Latency (codes "3") (codes "a")) 60 (net 3 ∷ []) ∷ []

abbrev from : IpAddress → Asker
from address = record asker { peer = address }

abbrev by_latency : Served
by_latency = record (serving regions) { tables = record { places = []; latencies = latencies } }

as_near : (query_reply by_latency (from us_client) (query www 1 None)).answers
    ≡ rr www 60 rtype.A (net 3) ∷ []
unfolding sections descend scope_in number_of
as_near = refl

no_row : (query_reply by_latency asker (query www 1 None)).answers ≡ rr www 60 rtype.A (net 3) ∷ []
unfolding sections descend scope_in number_of
no_row = refl

-- ---- blocks of addresses

-- `lab` is 198.51.0.0/16, and `office` is 198.51.100.0/24
abbrev collections : List (ℕ × Collection)
collections = (
  1,
  record {
    name = codes "all";
    locations = record {
      name = codes "lab";
      blocks = record { address = V4 (198 ∷ 51 ∷ 0 ∷ 0 ∷ []); length = 16 } ∷ [];
    } ∷ record {
      name = codes "office";
      blocks = record { address = V4 (198 ∷ 51 ∷ 100 ∷ 0 ∷ []); length = 24 } ∷ [];
    } ∷ [];
  },
) ∷ []

abbrev located : List RecordSet
located = routed www rtype.A (routing.Cidr (codes "1") 1 (codes "office")) 60 (net 1 ∷ [])
    ∷ routed www rtype.A (routing.Cidr (codes "2") 1 (codes "lab")) 60 (net 2 ∷ [])
    ∷ routed www rtype.A (routing.Cidr (codes "3") 1 (codes "*")) 60 (net 3 ∷ []) ∷ []

-- the set of an identifier is unhealthy, in the zone of number 1
abbrev is_ident : List ℕ → Option (List ℕ) → Bool
is_ident text None = false
is_ident text (Some other) = bytes_eq text other

abbrev but : List (List ℕ) → ℕ → SetKey → Bool
but idents id key = not (id == 1 && list_any (λ text. is_ident text key.ident) idents)

abbrev by_block : List (List ℕ) → Served
by_block unhealthy = record (serving located) { collections = collections; healthy = but unhealthy }

abbrev answers : Served → Asker → List Record
answers served from_there = (query_reply served from_there (query www 1 None)).answers

in_office : answers (by_block []) (from (V4 (198 ∷ 51 ∷ 100 ∷ 7 ∷ [])))
    ≡ rr www 60 rtype.A (net 1) ∷ []
unfolding sections descend scope_in number_of
in_office = refl

in_lab : answers (by_block []) (from (V4 (198 ∷ 51 ∷ 7 ∷ 7 ∷ []))) ≡ rr www 60 rtype.A (net 2) ∷ []
unfolding sections descend scope_in number_of
in_lab = refl

in_none : answers (by_block []) asker ≡ rr www 60 rtype.A (net 3) ∷ []
unfolding sections descend scope_in number_of
in_none = refl

office_down : answers (by_block (codes "1" ∷ [])) (from (V4 (198 ∷ 51 ∷ 100 ∷ 7 ∷ [])))
    ≡ rr www 60 rtype.A (net 3) ∷ []
unfolding sections descend scope_in number_of
office_down = refl

-- the scope of the collection: 198.51.7.0/24 shares 17 bits with the office's block
block_scope : (query_reply (by_block []) (from (V4 (198 ∷ 51 ∷ 7 ∷ 7 ∷ [])))
    (query www 1 (asking (record subnet { address = 198 ∷ 51 ∷ 7 ∷ replicate 13 0 })))).opt ≡
    Some (record {
      size = 4096;
      dnssec_ok = false;
      options = record { code = 8; body = 0 ∷ 1 ∷ 24 ∷ 18 ∷ 198 ∷ 51 ∷ 7 ∷ [] } ∷ [];
    })
unfolding sections descend scope_in number_of
block_scope = refl

-- ---- aliases

abbrev e : List (List ℕ)
e = codes "e" ∷ example

abbrev w : List (List ℕ)
w = codes "w" ∷ example

-- latency aliases to weighted groups
abbrev tree : List RecordSet
tree = routed e rtype.A (routing.Weighted (codes "e1") 1) 30 (net 1 ∷ [])
    ∷ routed w rtype.A (routing.Weighted (codes "w1") 1) 40 (net 2 ∷ [])
    ∷ alias www rtype.A (routing.Latency (codes "us") (codes "us-east-1")) e
    ∷ alias www rtype.A (routing.Latency (codes "eu") (codes "eu-west-1")) w ∷ []

abbrev far : List (Prefix × List (List ℕ × ℕ))
far = (
  record { address = V4 (198 ∷ 51 ∷ 100 ∷ 0 ∷ []); length = 24 },
  (codes "us-east-1", 20) ∷ (codes "eu-west-1", 90) ∷ [],
) ∷ []

abbrev by_tree : List (List ℕ) → Served
by_tree unhealthy = record (serving tree) {
  tables = record { places = []; latencies = far };
  healthy = but unhealthy;
}

-- all sets of e are unhealthy; the alias is too where it evaluates its target's health
evaluated : answers (by_tree (codes "e1" ∷ codes "us" ∷ [])) (from us_client)
    ≡ rr www 40 rtype.A (net 2) ∷ []
unfolding sections descend scope_in number_of
evaluated = refl

not_evaluated : answers (by_tree (codes "e1" ∷ [])) (from us_client)
    ≡ rr www 30 rtype.A (net 1) ∷ []
unfolding sections descend scope_in number_of
not_evaluated = refl

-- a chain of aliases: a0 is an alias of a1, and so on
abbrev a : ℕ → List (List ℕ)
a n = (0x61 ∷ (48 + n) ∷ []) ∷ example

abbrev to_next : ℕ → RecordSet
to_next n = alias (a n) rtype.A routing.Simple (a (n + 1))

abbrev sixteen : List RecordSet
sixteen = map to_next (0 ∷ 1 ∷ 2 ∷ 3 ∷ 4 ∷ 5 ∷ 6 ∷ 7 ∷ 8 ∷ 9 ∷ 10 ∷ 11 ∷ 12 ∷ 13 ∷ 14 ∷ 15 ∷ [])

abbrev from_a0 : List RecordSet → Descended
from_a0 sets = descend (within (zone_of sets) 1).means sets (to_next 0 ∷ []) no_choices

seventeen_choices : from_a0 (sixteen ++ simple (a 16) rtype.A 60 (net 1 ∷ []) ∷ [])
    ≡ record {
      sets = simple (a 16) rtype.A 60 (net 1 ∷ []) ∷ [];
      choices = record { count = 17; used = unused };
    }
unfolding descend
seventeen_choices = refl

one_link_more :
    (from_a0 (sixteen ++ to_next 16 ∷ simple (a 17) rtype.A 60 (net 1 ∷ []) ∷ [])).sets ≡ []
unfolding descend
one_link_more = refl

-- Behind eight aliases a ninth choice is by the first word again: by 1 it is the second set.
abbrev eight : List RecordSet
eight = map to_next (0 ∷ 1 ∷ 2 ∷ 3 ∷ 4 ∷ 5 ∷ 6 ∷ 7 ∷ [])
    ++ routed (a 8) rtype.A (routing.Weighted (codes "1") 1) 60 (net 1 ∷ [])
    ∷ routed (a 8) rtype.A (routing.Weighted (codes "2") 1) 60 (net 2 ∷ []) ∷ []

first_word_again :
    (query_reply (serving eight) (record asker { words = 1 ∷ 0 ∷ 0 ∷ 0 ∷ 0 ∷ 0 ∷ 0 ∷ 0 ∷ [] })
    (query (a 0) 1 None)).answers ≡ rr (a 0) 60 rtype.A (net 2) ∷ []
unfolding sections descend scope_in number_of
first_word_again = refl

tenth : word_of (10 ∷ 11 ∷ 12 ∷ 13 ∷ 14 ∷ 15 ∷ 16 ∷ 17 ∷ []) 9 ≡ 11
tenth = refl

-- the choices go on from a CNAME group: the second group is chosen from by the second word
abbrev cname_then_weighted : List RecordSet
cname_then_weighted = simple www rtype.Cname 60 (name_wire w ∷ [])
    ∷ routed w rtype.A (routing.Weighted (codes "1") 1) 60 (net 1 ∷ [])
    ∷ routed w rtype.A (routing.Weighted (codes "2") 1) 60 (net 2 ∷ []) ∷ []

second_word : map (λ (r : Record). r.rdata)
    (query_reply (serving cname_then_weighted)
    (record asker { words = 0 ∷ 1 ∷ 0 ∷ 0 ∷ 0 ∷ 0 ∷ 0 ∷ 0 ∷ [] })
    (query www 1 None)).answers
    ≡ name_wire w ∷ net 2 ∷ []
unfolding sections descend scope_in number_of
second_word = refl

-- ---- multivalue answers

-- nine sets of one address, with a TTL of 60 but the seventh with 10
abbrev of_nine : ℕ → ℕ → RecordSet
of_nine n ttl = routed www rtype.A (routing.Multivalue ((48 + n) ∷ [])) ttl (net n ∷ [])

abbrev several : List RecordSet
several = of_nine 1 60 ∷ of_nine 2 60 ∷ of_nine 3 60 ∷ of_nine 4 60 ∷ of_nine 5 60 ∷ of_nine 6 60
    ∷ of_nine 7 10 ∷ of_nine 8 60 ∷ of_nine 9 60 ∷ []

abbrev first_word : ℕ → Asker
first_word word = record asker { words = word ∷ replicate 7 0 }

abbrev address_with : ℕ → ℕ → Record
address_with ttl n = rr www ttl rtype.A (net n)

from_the_eighth : answers (serving several) (first_word 7)
    ≡ map (address_with 60) (8 ∷ 9 ∷ 1 ∷ 2 ∷ 3 ∷ 4 ∷ 5 ∷ 6 ∷ [])
unfolding sections descend scope_in number_of
from_the_eighth = refl

least_ttl : answers (serving several) (first_word 6)
    ≡ map (address_with 10) (7 ∷ 8 ∷ 9 ∷ 1 ∷ 2 ∷ 3 ∷ 4 ∷ 5 ∷ [])
unfolding sections descend scope_in number_of
least_ttl = refl

-- a value that came before is left out
abbrev shared : List RecordSet
shared = routed www rtype.A (routing.Multivalue (codes "a")) 60 (net 2 ∷ net 1 ∷ [])
    ∷ routed www rtype.A (routing.Multivalue (codes "b")) 60 (net 3 ∷ net 2 ∷ []) ∷ []

left_out : answers (serving shared) asker ≡ map (address_with 60) (2 ∷ 1 ∷ 3 ∷ [])
unfolding sections descend scope_in number_of
left_out = refl
