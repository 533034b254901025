-- Replies octet by octet: of single addresses, cuts, and CNAME records.
use Rattle.std.proofs.Common.{◌≡◌, ℕ, true, false, Some, None, Option, List, [], ◌∷◌, ◌++◌, refl}
use Rattle.std.proofs.Common.{replicate}
use Rattle.std.specs.Prelude.{codes, length, map, ◌+◌}
use Rattle.dns_wire.specs.EdnsRecord.{Edns}
use Rattle.dns_wire.specs.QueryReadRecord.TheVariants as read
use Rattle.dns_name.specs.Labels.{wire as name_wire}
use Rattle.dns_wire.specs.Message.{Record, octets_within}
use Rattle.zone_model.specs.RTypeRecord.TheVariants as rtype
use Rattle.zone_model.specs.RecordSetRecord.{RecordSet}
use Rattle.routing.specs.declared.policies.Routing.TheVariants as routing
use Rattle.answer_model.specs.Descent.{descend}
use Rattle.answer_model.specs.Reply.{reply_to_read}
use Rattle.answer_model.specs.Sections.{sections}
use Rattle.zone_model.specs.Hosted.{HostedZone}
use Rattle.answer_model.proofs.Given.{alias, among, answered, no_data_with, routed, rr, simple}
use Rattle.answer_model.proofs.Given.{within}
use Rattle.answer_model.proofs.Given.{apex_soa, asker, example, net, query, reply, serving, www}
use Rattle.answer_model.proofs.Given.{zone_of}

-- ---- www.example.com has an address

abbrev one_address : List RecordSet
one_address = simple www rtype.A 300 (net 1 ∷ []) ∷ []

-- an answer
address : reply one_address (query www 1 None)
    ≡ Some (
    0x12 ∷ 0x34 ∷ 0x85 ∷ 0x00 ∷ 0x00 ∷ 0x01 ∷ 0x00 ∷ 0x01 ∷ 0x00 ∷ 0x00 ∷ 0x00 ∷ 0x00 ∷ 0x03 ∷
    0x77 ∷ 0x77 ∷ 0x77 ∷ 0x07 ∷ 0x65 ∷ 0x78 ∷ 0x61 ∷ 0x6D ∷ 0x70 ∷ 0x6C ∷ 0x65 ∷ 0x03 ∷ 0x63 ∷
    0x6F ∷ 0x6D ∷ 0x00 ∷ 0x00 ∷ 0x01 ∷ 0x00 ∷ 0x01 ∷ 0xC0 ∷ 0x0C ∷ 0x00 ∷ 0x01 ∷ 0x00 ∷ 0x01 ∷
    0x00 ∷ 0x00 ∷ 0x01 ∷ 0x2C ∷ 0x00 ∷ 0x04 ∷ 0xC0 ∷ 0x00 ∷ 0x02 ∷ 0x01 ∷ [])
unfolding octets_within sections descend
address = refl

-- EDNS of 1,232 octets, without DO
abbrev edns : Option Edns
edns = Some (record { size = 1232; dnssec_ok = false; subnet = None })

-- the OPT record stands last
with_opt : reply one_address (query www 1 edns)
    ≡ Some (
    0x12 ∷ 0x34 ∷ 0x85 ∷ 0x00 ∷ 0x00 ∷ 0x01 ∷ 0x00 ∷ 0x01 ∷ 0x00 ∷ 0x00 ∷ 0x00 ∷ 0x01 ∷ 0x03 ∷
    0x77 ∷ 0x77 ∷ 0x77 ∷ 0x07 ∷ 0x65 ∷ 0x78 ∷ 0x61 ∷ 0x6D ∷ 0x70 ∷ 0x6C ∷ 0x65 ∷ 0x03 ∷ 0x63 ∷
    0x6F ∷ 0x6D ∷ 0x00 ∷ 0x00 ∷ 0x01 ∷ 0x00 ∷ 0x01 ∷ 0xC0 ∷ 0x0C ∷ 0x00 ∷ 0x01 ∷ 0x00 ∷ 0x01 ∷
    0x00 ∷ 0x00 ∷ 0x01 ∷ 0x2C ∷ 0x00 ∷ 0x04 ∷ 0xC0 ∷ 0x00 ∷ 0x02 ∷ 0x01 ∷ 0x00 ∷ 0x00 ∷ 0x29 ∷
    0x10 ∷ 0x00 ∷ 0x00 ∷ 0x00 ∷ 0x00 ∷ 0x00 ∷ 0x00 ∷ 0x00 ∷ [])
unfolding octets_within sections descend
with_opt = refl

-- a newer version of EDNS: BADVERS
bad_version : reply_to_read (serving one_address) asker (read.BadVersion (query www 1 edns))
    ≡ Some (
    0x12 ∷ 0x34 ∷ 0x81 ∷ 0x00 ∷ 0x00 ∷ 0x01 ∷ 0x00 ∷ 0x00 ∷ 0x00 ∷ 0x00 ∷ 0x00 ∷ 0x01 ∷ 0x03 ∷
    0x77 ∷ 0x77 ∷ 0x77 ∷ 0x07 ∷ 0x65 ∷ 0x78 ∷ 0x61 ∷ 0x6D ∷ 0x70 ∷ 0x6C ∷ 0x65 ∷ 0x03 ∷ 0x63 ∷
    0x6F ∷ 0x6D ∷ 0x00 ∷ 0x00 ∷ 0x01 ∷ 0x00 ∷ 0x01 ∷ 0x00 ∷ 0x00 ∷ 0x29 ∷ 0x10 ∷ 0x00 ∷ 0x01 ∷
    0x00 ∷ 0x00 ∷ 0x00 ∷ 0x00 ∷ 0x00 ∷ [])
unfolding octets_within sections descend
bad_version = refl

-- opcode 5: the header alone
not_implemented : reply_to_read (serving one_address) asker (read.Bad 0x1234 5 true 4)
    ≡ Some (
    0x12 ∷ 0x34 ∷ 0xA9 ∷ 0x04 ∷ 0x00 ∷ 0x00 ∷ 0x00 ∷ 0x00 ∷ 0x00 ∷ 0x00 ∷ 0x00 ∷ 0x00 ∷ [])
unfolding octets_within sections descend
not_implemented = refl

unheard : reply_to_read (serving one_address) asker read.Silent ≡ None
unheard = refl

-- class CH (3): REFUSED
chaos : reply one_address (record (query www 1 None) { qclass = 3 })
    ≡ Some (
    0x12 ∷ 0x34 ∷ 0x81 ∷ 0x05 ∷ 0x00 ∷ 0x01 ∷ 0x00 ∷ 0x00 ∷ 0x00 ∷ 0x00 ∷ 0x00 ∷ 0x00 ∷ 0x03 ∷
    0x77 ∷ 0x77 ∷ 0x77 ∷ 0x07 ∷ 0x65 ∷ 0x78 ∷ 0x61 ∷ 0x6D ∷ 0x70 ∷ 0x6C ∷ 0x65 ∷ 0x03 ∷ 0x63 ∷
    0x6F ∷ 0x6D ∷ 0x00 ∷ 0x00 ∷ 0x01 ∷ 0x00 ∷ 0x01 ∷ [])
unfolding octets_within sections descend
chaos = refl

-- type `*`, and the transfers
any_type : reply one_address (query www 255 None)
    ≡ Some (
    0x12 ∷ 0x34 ∷ 0x81 ∷ 0x05 ∷ 0x00 ∷ 0x01 ∷ 0x00 ∷ 0x00 ∷ 0x00 ∷ 0x00 ∷ 0x00 ∷ 0x00 ∷ 0x03 ∷
    0x77 ∷ 0x77 ∷ 0x77 ∷ 0x07 ∷ 0x65 ∷ 0x78 ∷ 0x61 ∷ 0x6D ∷ 0x70 ∷ 0x6C ∷ 0x65 ∷ 0x03 ∷ 0x63 ∷
    0x6F ∷ 0x6D ∷ 0x00 ∷ 0x00 ∷ 0xFF ∷ 0x00 ∷ 0x01 ∷ [])
unfolding octets_within sections descend
any_type = refl

-- AXFR
axfr : reply one_address (query www 252 None)
    ≡ Some (
    0x12 ∷ 0x34 ∷ 0x81 ∷ 0x05 ∷ 0x00 ∷ 0x01 ∷ 0x00 ∷ 0x00 ∷ 0x00 ∷ 0x00 ∷ 0x00 ∷ 0x00 ∷ 0x03 ∷
    0x77 ∷ 0x77 ∷ 0x77 ∷ 0x07 ∷ 0x65 ∷ 0x78 ∷ 0x61 ∷ 0x6D ∷ 0x70 ∷ 0x6C ∷ 0x65 ∷ 0x03 ∷ 0x63 ∷
    0x6F ∷ 0x6D ∷ 0x00 ∷ 0x00 ∷ 0xFC ∷ 0x00 ∷ 0x01 ∷ [])
unfolding octets_within sections descend
axfr = refl

-- IXFR
ixfr : reply one_address (query www 251 None)
    ≡ Some (
    0x12 ∷ 0x34 ∷ 0x81 ∷ 0x05 ∷ 0x00 ∷ 0x01 ∷ 0x00 ∷ 0x00 ∷ 0x00 ∷ 0x00 ∷ 0x00 ∷ 0x00 ∷ 0x03 ∷
    0x77 ∷ 0x77 ∷ 0x77 ∷ 0x07 ∷ 0x65 ∷ 0x78 ∷ 0x61 ∷ 0x6D ∷ 0x70 ∷ 0x6C ∷ 0x65 ∷ 0x03 ∷ 0x63 ∷
    0x6F ∷ 0x6D ∷ 0x00 ∷ 0x00 ∷ 0xFB ∷ 0x00 ∷ 0x01 ∷ [])
unfolding octets_within sections descend
ixfr = refl

-- no zone holds com
no_zone : reply one_address (query (codes "com" ∷ []) 1 None)
    ≡ Some (
    0x12 ∷ 0x34 ∷ 0x81 ∷ 0x05 ∷ 0x00 ∷ 0x01 ∷ 0x00 ∷ 0x00 ∷ 0x00 ∷ 0x00 ∷ 0x00 ∷ 0x00 ∷ 0x03 ∷
    0x63 ∷ 0x6F ∷ 0x6D ∷ 0x00 ∷ 0x00 ∷ 0x01 ∷ 0x00 ∷ 0x01 ∷ [])
unfolding octets_within sections descend
no_zone = refl

-- NXDOMAIN, with the apex SOA
no_name : reply one_address (query (codes "nope" ∷ example) 1 None)
    ≡ Some (
    0x12 ∷ 0x34 ∷ 0x85 ∷ 0x03 ∷ 0x00 ∷ 0x01 ∷ 0x00 ∷ 0x00 ∷ 0x00 ∷ 0x01 ∷ 0x00 ∷ 0x00 ∷ 0x04 ∷
    0x6E ∷ 0x6F ∷ 0x70 ∷ 0x65 ∷ 0x07 ∷ 0x65 ∷ 0x78 ∷ 0x61 ∷ 0x6D ∷ 0x70 ∷ 0x6C ∷ 0x65 ∷ 0x03 ∷
    0x63 ∷ 0x6F ∷ 0x6D ∷ 0x00 ∷ 0x00 ∷ 0x01 ∷ 0x00 ∷ 0x01 ∷ 0xC0 ∷ 0x11 ∷ 0x00 ∷ 0x06 ∷ 0x00 ∷
    0x01 ∷ 0x00 ∷ 0x00 ∷ 0x03 ∷ 0x84 ∷ 0x00 ∷ 0x40 ∷ 0x03 ∷ 0x6E ∷ 0x73 ∷ 0x31 ∷ 0x03 ∷ 0x72 ∷
    0x35 ∷ 0x33 ∷ 0x07 ∷ 0x69 ∷ 0x6E ∷ 0x76 ∷ 0x61 ∷ 0x6C ∷ 0x69 ∷ 0x64 ∷ 0x00 ∷ 0x11 ∷ 0x61 ∷
    0x77 ∷ 0x73 ∷ 0x64 ∷ 0x6E ∷ 0x73 ∷ 0x2D ∷ 0x68 ∷ 0x6F ∷ 0x73 ∷ 0x74 ∷ 0x6D ∷ 0x61 ∷ 0x73 ∷
    0x74 ∷ 0x65 ∷ 0x72 ∷ 0x06 ∷ 0x61 ∷ 0x6D ∷ 0x61 ∷ 0x7A ∷ 0x6F ∷ 0x6E ∷ 0xC0 ∷ 0x19 ∷ 0x00 ∷
    0x00 ∷ 0x00 ∷ 0x01 ∷ 0x00 ∷ 0x00 ∷ 0x1C ∷ 0x20 ∷ 0x00 ∷ 0x00 ∷ 0x03 ∷ 0x84 ∷ 0x00 ∷ 0x12 ∷
    0x75 ∷ 0x00 ∷ 0x00 ∷ 0x01 ∷ 0x51 ∷ 0x80 ∷ [])
unfolding octets_within sections descend
no_name = refl

-- ---- a zone cut

abbrev sub : List (List ℕ)
sub = codes "sub" ∷ example

abbrev ns1_sub : List (List ℕ)
ns1_sub = codes "ns1" ∷ sub

abbrev delegation : List RecordSet
delegation = simple sub rtype.Ns 3600 (name_wire ns1_sub ∷ [])
    ∷ simple ns1_sub rtype.A 3600 (net 53 ∷ []) ∷ []

-- a referral: no AA
delegated : reply delegation (query (codes "x" ∷ sub) 1 None)
    ≡ Some (
    0x12 ∷ 0x34 ∷ 0x81 ∷ 0x00 ∷ 0x00 ∷ 0x01 ∷ 0x00 ∷ 0x00 ∷ 0x00 ∷ 0x01 ∷ 0x00 ∷ 0x01 ∷ 0x01 ∷
    0x78 ∷ 0x03 ∷ 0x73 ∷ 0x75 ∷ 0x62 ∷ 0x07 ∷ 0x65 ∷ 0x78 ∷ 0x61 ∷ 0x6D ∷ 0x70 ∷ 0x6C ∷ 0x65 ∷
    0x03 ∷ 0x63 ∷ 0x6F ∷ 0x6D ∷ 0x00 ∷ 0x00 ∷ 0x01 ∷ 0x00 ∷ 0x01 ∷ 0xC0 ∷ 0x0E ∷ 0x00 ∷ 0x02 ∷
    0x00 ∷ 0x01 ∷ 0x00 ∷ 0x00 ∷ 0x0E ∷ 0x10 ∷ 0x00 ∷ 0x06 ∷ 0x03 ∷ 0x6E ∷ 0x73 ∷ 0x31 ∷ 0xC0 ∷
    0x0E ∷ 0x03 ∷ 0x6E ∷ 0x73 ∷ 0x31 ∷ 0xC0 ∷ 0x0E ∷ 0x00 ∷ 0x01 ∷ 0x00 ∷ 0x01 ∷ 0x00 ∷ 0x00 ∷
    0x0E ∷ 0x10 ∷ 0x00 ∷ 0x04 ∷ 0xC0 ∷ 0x00 ∷ 0x02 ∷ 0x35 ∷ [])
unfolding octets_within sections descend
delegated = refl

-- glue is of simple sets with values alone
abbrev odd_glue : List RecordSet
odd_glue = simple sub rtype.Ns 3600 (name_wire ns1_sub ∷ [])
    ∷ routed ns1_sub rtype.A (routing.Weighted (codes "a") 1) 60 (net 1 ∷ [])
    ∷ alias ns1_sub rtype.Aaaa routing.Simple www ∷ simple www rtype.Aaaa 60 ([] ∷ []) ∷ []

no_glue : (sections (within (zone_of odd_glue) 1) sub).additionals ≡ []
unfolding sections descend
no_glue = refl

-- a cut below a cut: the one nearest the apex
abbrev two_cuts : List RecordSet
two_cuts = simple sub rtype.Ns 60 (name_wire www ∷ [])
    ∷ simple ns1_sub rtype.Ns 90 (name_wire www ∷ []) ∷ []

nearest_the_apex : (sections (within (zone_of two_cuts) 1) (codes "x" ∷ ns1_sub)).authorities
    ≡ rr sub 60 rtype.Ns (name_wire www) ∷ []
unfolding sections descend
nearest_the_apex = refl

-- the apex itself is none: its NS set answers
apex_ns : (sections (within (zone_of []) 2) example).aa ≡ true
unfolding sections descend
apex_ns = refl

-- ---- an address at a.b alone: b exists, without sets, and beside a wildcard too

abbrev b : List (List ℕ)
b = codes "b" ∷ example

abbrev deep : List RecordSet
deep = simple (codes "a" ∷ b) rtype.A 60 (net 1 ∷ []) ∷ []

empty : sections (within (zone_of deep) 1) b ≡ no_data_with apex_soa
unfolding sections descend
empty = refl

beside_wildcard : sections
    (within (zone_of (simple (codes "*" ∷ example) rtype.A 60 (net 2 ∷ []) ∷ deep)) 1) b
    ≡ no_data_with apex_soa
unfolding sections descend
beside_wildcard = refl

-- ---- how long a reply is

abbrev addresses : ℕ → List RecordSet
addresses n = simple www rtype.A 300 (replicate n (net 1)) ∷ []

abbrev size : Option (List ℕ) → ℕ
size None = 0
size (Some octets) = length octets

whole : size (reply (addresses 29) (query www 1 None)) ≡ 497
unfolding octets_within sections descend
whole = refl

-- 30 addresses: TC, AA, and the question
cut : reply (addresses 30) (query www 1 None)
    ≡ Some (
    0x12 ∷ 0x34 ∷ 0x87 ∷ 0x00 ∷ 0x00 ∷ 0x01 ∷ 0x00 ∷ 0x00 ∷ 0x00 ∷ 0x00 ∷ 0x00 ∷ 0x00 ∷ 0x03 ∷
    0x77 ∷ 0x77 ∷ 0x77 ∷ 0x07 ∷ 0x65 ∷ 0x78 ∷ 0x61 ∷ 0x6D ∷ 0x70 ∷ 0x6C ∷ 0x65 ∷ 0x03 ∷ 0x63 ∷
    0x6F ∷ 0x6D ∷ 0x00 ∷ 0x00 ∷ 0x01 ∷ 0x00 ∷ 0x01 ∷ [])
unfolding octets_within sections descend
cut = refl

-- ---- CNAME records

abbrev elsewhere : List (List ℕ)
elsewhere = codes "other" ∷ codes "example" ∷ codes "net" ∷ []

abbrev to_elsewhere : RecordSet
to_elsewhere = simple www rtype.Cname 300 (name_wire elsewhere ∷ [])

-- the target is in no zone, or in another one: AA, RCODE 0
outside : sections (within (zone_of (to_elsewhere ∷ [])) 1) www
    ≡ answered (rr www 300 rtype.Cname (name_wire elsewhere) ∷ [])
unfolding sections descend
outside = refl

abbrev net_zone : HostedZone
net_zone = record {
  id = 2;
  apex = codes "example" ∷ codes "net" ∷ [];
  sets = simple elsewhere rtype.A 60 (net 1 ∷ []) ∷ [];
}

abbrev com_zone : HostedZone
com_zone = zone_of (to_elsewhere ∷ [])

in_another_zone : sections (among (com_zone ∷ net_zone ∷ []) com_zone 1) www
    ≡ answered (rr www 300 rtype.Cname (name_wire elsewhere) ∷ [])
unfolding sections descend
in_another_zone = refl

-- a zone of a longer name holds the target
abbrev sub_zone : HostedZone
sub_zone = record { id = 2; apex = sub; sets = simple sub rtype.A 60 (net 1 ∷ []) ∷ [] }

abbrev to_sub : HostedZone
to_sub = zone_of (simple www rtype.Cname 300 (name_wire sub ∷ [])
    ∷ simple sub rtype.A 60 (net 2 ∷ []) ∷ [])

in_longer_zone : sections (among (to_sub ∷ sub_zone ∷ []) to_sub 1) www
    ≡ answered (rr www 300 rtype.Cname (name_wire sub) ∷ [])
unfolding sections descend
in_longer_zone = refl

in_this_zone : sections (within to_sub 1) www
    ≡ answered (rr www 300 rtype.Cname (name_wire sub) ∷ rr sub 60 rtype.A (net 2) ∷ [])
unfolding sections descend
in_this_zone = refl

-- c1 to c9 are CNAME records, each to the next, and x has an address
abbrev c : ℕ → List (List ℕ)
c n = (0x63 ∷ (48 + n) ∷ []) ∷ example

abbrev link : ℕ → RecordSet
link n = simple (c n) rtype.Cname 300 (name_wire (c (n + 1)) ∷ [])

abbrev nine : List RecordSet
nine = map link (1 ∷ 2 ∷ 3 ∷ 4 ∷ 5 ∷ 6 ∷ 7 ∷ 8 ∷ 9 ∷ [])

abbrev linked : ℕ → Record
linked n = rr (c n) 300 rtype.Cname (name_wire (c (n + 1)))

ninth_left_out : sections (within (zone_of nine) 1) (c 1)
    ≡ answered (map linked (1 ∷ 2 ∷ 3 ∷ 4 ∷ 5 ∷ 6 ∷ 7 ∷ 8 ∷ []))
unfolding sections descend
ninth_left_out = refl

-- after eight the ninth name is looked up: an address of it is added, and where it isn't there it
-- is
-- NXDOMAIN
eight_and_address : sections
    (within (zone_of (nine ++ simple (c 10) rtype.A 60 (net 1 ∷ []) ∷ [])) 1) (c 2)
    ≡ answered (map linked (2 ∷ 3 ∷ 4 ∷ 5 ∷ 6 ∷ 7 ∷ 8 ∷ 9 ∷ []) ++ rr (c 10) 60 rtype.A (net 1)
    ∷ [])
unfolding sections descend
eight_and_address = refl

eight_and_none : (sections (within (zone_of nine) 1) (c 2)).rcode ≡ 3
unfolding sections descend
eight_and_none = refl

-- a record is of the name that was asked for, not of the wildcard
abbrev wild : List RecordSet
wild = simple (codes "*" ∷ example) rtype.Cname 60 (name_wire b ∷ [])
    ∷ simple b rtype.A 60 (net 1 ∷ []) ∷ []

wildcard_cname : sections (within (zone_of wild) 1) www
    ≡ answered (rr www 60 rtype.Cname (name_wire b) ∷ rr b 60 rtype.A (net 1) ∷ [])
unfolding sections descend
wildcard_cname = refl
