-- What the vectors are made of.
use Rattle.std.proofs.Common.{ℕ, true, false, None, List, [], ◌∷◌, ◌++◌, replicate}
use Rattle.std.specs.Prelude.{Option, codes, length, map, ◌+◌}
use Rattle.address_text.specs.declared.address.IpAddress.TheVariants.{V4}
use Rattle.dns_wire.specs.EdnsRecord.{Edns}
use Rattle.dns_wire.specs.QueryRecord.{Query}
use Rattle.dns_wire.specs.QueryReadRecord.TheVariants as read
use Rattle.dns_name.specs.Labels.{wire}
use Rattle.dns_wire.specs.Message.{Record}
use Rattle.choice_model.specs.TablesRecord.{Tables}
use Rattle.octets.specs.Numbers.{two_octets}
use Rattle.zone_model.specs.RTypeRecord.{RType}
use Rattle.zone_model.specs.RTypeRecord.TheVariants as rtype
use Rattle.zone_model.specs.BodyRecord.TheVariants as body
use Rattle.zone_model.specs.RecordSetRecord.{RecordSet}
use Rattle.zone_model.specs.SetKeyRecord.{SetKey}
use Rattle.routing.specs.declared.policies.Routing.{Routing}
use Rattle.routing.specs.declared.policies.Routing.TheVariants as routing
use Rattle.answer_model.specs.Clients.{Client}
use Rattle.answer_model.specs.Descent.{unused}
use Rattle.answer_model.specs.Reply.{Asker, Served, reply_to_read}
use Rattle.answer_model.specs.Sections.{Lookup, Sections}
use Rattle.zone_model.specs.Hosted.{HostedZone}

-- a set with a policy and values
abbrev pub routed : List (List ℕ) → RType → Routing → (ttl : ℕ) → List (List ℕ) → RecordSet
routed owner kind policy ttl rdatas = record {
  name = owner;
  rtype = kind;
  routing = policy;
  body = body.Values ttl (map (λ rdata. record { rtype = kind; wire = rdata }) rdatas);
  check = None;
}

-- a simple set
abbrev pub simple : List (List ℕ) → RType → (ttl : ℕ) → List (List ℕ) → RecordSet
simple owner kind ttl rdatas = routed owner kind routing.Simple ttl rdatas

-- an alias
abbrev pub alias : List (List ℕ) → RType → Routing → (target : List (List ℕ)) → RecordSet
alias owner kind policy target = record {
  name = owner;
  rtype = kind;
  routing = policy;
  body = body.Alias target true;
  check = None;
}

-- one record
abbrev pub rr : List (List ℕ) → (ttl : ℕ) → RType → List ℕ → Record
rr owner ttl kind rdata = record { owner = owner; rtype = kind; ttl = ttl; rdata = rdata }

-- a client of whom nothing is told
abbrev pub nobody : Client
nobody = record {
  rows = record { location = None; latencies = None; block = λ collection. None };
  places = 0;
  latencies = 0;
  blocks = λ collection. 0;
}

-- looked up in a zone, among zones, where all sets are healthy and each word is 0
abbrev pub among : List HostedZone → HostedZone → (qtype : ℕ) → Lookup
among zones zone qtype = record {
  zones = zones;
  zone = zone;
  means = record {
    healthy = λ (key : SetKey). true;
    client = nobody;
    words = replicate 8 0;
  };
  qtype = qtype;
}

abbrev pub within : HostedZone → (qtype : ℕ) → Lookup
within zone qtype = among (zone ∷ []) zone qtype

-- sections with AA and RCODE 0, for which nothing was used of the client
abbrev pub answered : List Record → Sections
answered records = record {
  answers = records;
  authorities = [];
  additionals = [];
  aa = true;
  rcode = 0;
  used = unused;
}

-- no data, with the zone's start of authority
abbrev pub no_data_with : Record → Sections
no_data_with soa = record (answered []) { authorities = soa ∷ [] }

-- a name that doesn't exist
abbrev pub no_name_with : Record → Sections
no_name_with soa = record (no_data_with soa) { rcode = 3 }

-- a referral to name servers, with addresses
abbrev pub referral_to : List Record → List Record → Sections
referral_to servers addresses = record (answered []) {
  authorities = servers;
  additionals = addresses;
  aa = false;
}

-- the data of a start of authority: SERIAL 1, REFRESH 7200, RETRY 900, EXPIRE 1209600 and a MINIMUM
-- that is one octet
abbrev pub soa_data : (server mailbox : List (List ℕ)) → (minimum : ℕ) → List ℕ
soa_data server mailbox minimum =
    wire server ++ (wire mailbox ++ (0 ∷ 0 ∷ 0 ∷ 1 ∷ 0 ∷ 0 ∷ 0x1C ∷ 0x20 ∷ 0 ∷ 0 ∷ 0x03 ∷ 0x84
    ∷ 0 ∷ 0x12 ∷ 0x75 ∷ 0 ∷ 0 ∷ 0 ∷ 0 ∷ minimum ∷ []))

-- ---- replies of a server with one zone, example.com

abbrev pub example : List (List ℕ)
example = codes "example" ∷ codes "com" ∷ []

abbrev pub www : List (List ℕ)
www = codes "www" ∷ example

-- a query for a name and a type, with RD, in class IN
abbrev pub query : (name : List (List ℕ)) → (qtype : ℕ) → Option Edns → Query
query name qtype edns = record {
  id = 0x1234;
  rd = true;
  question = wire name ++ (two_octets qtype ++ (0 ∷ 1 ∷ []));
  question_len = length (wire name) + 4;
  name = name;
  qtype = qtype;
  qclass = 1;
  edns = edns;
}

-- the apex sets that a zone is created with, and some more
abbrev pub soa : List ℕ
soa = wire (codes "ns1" ∷ codes "r53" ∷ codes "invalid" ∷ [])
    ++ (wire (codes "awsdns-hostmaster" ∷ codes "amazon" ∷ codes "com" ∷ [])
    ++ (0 ∷ 0 ∷ 0 ∷ 1 ∷ 0 ∷ 0 ∷ 0x1C ∷ 0x20 ∷ 0 ∷ 0 ∷ 0x03 ∷ 0x84 ∷ 0 ∷ 0x12 ∷ 0x75 ∷ 0
    ∷ 0 ∷ 1 ∷ 0x51 ∷ 0x80 ∷ []))

abbrev pub apex_soa : Record
apex_soa = rr example 900 rtype.Soa soa

abbrev pub zone_of : List RecordSet → HostedZone
zone_of sets = record {
  id = 1;
  apex = example;
  sets = simple example rtype.Ns 172800
      (wire (codes "ns1" ∷ codes "r53" ∷ codes "invalid" ∷ []) ∷ [])
      ∷ simple example rtype.Soa 900 (soa ∷ []) ∷ sets;
}

abbrev pub no_tables : Tables
no_tables = record { places = []; latencies = [] }

-- all sets of a zone are healthy
abbrev pub serving : List RecordSet → Served
serving sets = record {
  zones = zone_of sets ∷ [];
  collections = [];
  healthy = λ id key. true;
  tables = no_tables;
}

-- a packet from 203.0.113.1, with words of 0
abbrev pub asker : Asker
asker = record { peer = V4 (203 ∷ 0 ∷ 113 ∷ 1 ∷ []); words = replicate 8 0 }

abbrev pub reply : List RecordSet → Query → Option (List ℕ)
reply sets asked = reply_to_read (serving sets) asker (read.Query asked)

-- 192.0.2.n
abbrev pub net : ℕ → List ℕ
net n = 192 ∷ 0 ∷ 2 ∷ n ∷ []
