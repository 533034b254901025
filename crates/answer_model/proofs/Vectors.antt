-- Answers that the RFCs give of their example zones.
use Rattle.std.proofs.Common.{◌≡◌, ℕ, Some, None, List, [], ◌∷◌, ◌++◌, refl}
use Rattle.std.specs.Prelude.{codes}
use Rattle.dns_name.specs.Labels.{wire}
use Rattle.dns_wire.specs.Message.{Record}
use Rattle.zone_model.specs.RTypeRecord.TheVariants as rtype
use Rattle.answer_model.specs.Descent.{descend}
use Rattle.answer_model.specs.Names.{closest, source}
use Rattle.answer_model.specs.Sections.{sections}
use Rattle.zone_model.specs.Hosted.{HostedZone}
use Rattle.answer_model.proofs.Given.{simple, rr, within, answered, no_data_with, no_name_with}
use Rattle.answer_model.proofs.Given.{referral_to, soa_data}

-- ---- RFC 4592, 2.2.1: the example zone

abbrev example : List (List ℕ)
example = codes "example" ∷ []

abbrev star : List (List ℕ)
star = codes "*" ∷ example

abbrev host1 : List (List ℕ)
host1 = codes "host1" ∷ example

abbrev subdel : List (List ℕ)
subdel = codes "subdel" ∷ example

abbrev ns_com : List (List ℕ)
ns_com = codes "ns" ∷ codes "example" ∷ codes "com" ∷ []

abbrev ns_net : List (List ℕ)
ns_net = codes "ns" ∷ codes "example" ∷ codes "net" ∷ []

-- the SOA and SRV records' data are left open there
abbrev soa : List ℕ
soa = soa_data ns_com (codes "h" ∷ example) 60

abbrev srv : List ℕ
srv = 0 ∷ 1 ∷ 0 ∷ 2 ∷ 0 ∷ 22 ∷ wire host1

-- "this is a wildcard", and "this is not a wildcard"
abbrev a_wildcard : List ℕ
a_wildcard = 18 ∷ codes "this is a wildcard"

abbrev no_wildcard : List ℕ
no_wildcard = 22 ∷ codes "this is not a wildcard"

abbrev exchange : List ℕ
exchange = 0 ∷ 10 ∷ wire host1

abbrev zone : HostedZone
zone = record {
  id = 1;
  apex = example;
  sets = simple example rtype.Ns 3600 (wire ns_com ∷ wire ns_net ∷ [])
      ∷ simple example rtype.Soa 3600 (soa ∷ [])
      ∷ simple star rtype.Mx 3600 (exchange ∷ [])
      ∷ simple star rtype.Txt 3600 (a_wildcard ∷ [])
      ∷ simple (codes "sub" ∷ star) rtype.Txt 3600 (no_wildcard ∷ [])
      ∷ simple host1 rtype.A 3600 ((192 ∷ 0 ∷ 2 ∷ 1 ∷ []) ∷ [])
      ∷ simple (codes "_ssh" ∷ codes "_tcp" ∷ host1) rtype.Srv 3600 (srv ∷ [])
      ∷ simple (codes "_ssh" ∷ codes "_tcp" ∷ codes "host2" ∷ example) rtype.Srv 3600 (srv ∷ [])
      ∷ simple subdel rtype.Ns 3600 (wire ns_com ∷ wire ns_net ∷ []) ∷ [];
}

-- the apex SOA with the lesser TTL: MINIMUM is 60
abbrev apex_soa : Record
apex_soa = rr example 60 rtype.Soa soa

-- synthesized: QNAME=host3.example. QTYPE=MX
abbrev host3 : List (List ℕ)
host3 = codes "host3" ∷ example

host3_mx : sections (within zone 15) host3 ≡ answered (rr host3 3600 rtype.Mx exchange ∷ [])
unfolding sections descend
host3_mx = refl

-- QNAME=host3.example. QTYPE=A: no error, but no data
host3_a : sections (within zone 1) host3 ≡ no_data_with apex_soa
unfolding sections descend
host3_a = refl

-- QNAME=foo.bar.example. QTYPE=TXT
abbrev foo_bar : List (List ℕ)
foo_bar = codes "foo" ∷ codes "bar" ∷ example

foo_bar_txt : sections (within zone 16) foo_bar
    ≡ answered (rr foo_bar 3600 rtype.Txt a_wildcard ∷ [])
unfolding sections descend
foo_bar_txt = refl

-- not synthesized: QNAME=host1.example., QTYPE=MX, because host1.example. exists
host1_mx : sections (within zone 15) host1 ≡ no_data_with apex_soa
unfolding sections descend
host1_mx = refl

-- QNAME=sub.*.example., QTYPE=MX, because sub.*.example. exists
sub_mx : sections (within zone 15) (codes "sub" ∷ star) ≡ no_data_with apex_soa
unfolding sections descend
sub_mx = refl

-- QNAME=_telnet._tcp.host1.example., QTYPE=SRV, because _tcp.host1.example. exists (without data)
telnet_srv : sections (within zone 33) (codes "_telnet" ∷ codes "_tcp" ∷ host1)
    ≡ no_name_with apex_soa
unfolding sections descend
telnet_srv = refl

-- QNAME=host.subdel.example., QTYPE=A, because subdel.example. exists (and is a zone cut)
subdel_a : sections (within zone 1) (codes "host" ∷ subdel)
    ≡ referral_to (rr subdel 3600 rtype.Ns (wire ns_com) ∷ rr subdel 3600 rtype.Ns (wire ns_net)
    ∷ []) []
unfolding sections descend
subdel_a = refl

-- QNAME=ghost.*.example., QTYPE=MX, because *.example. exists
ghost_mx : sections (within zone 15) (codes "ghost" ∷ star) ≡ no_name_with apex_soa
unfolding sections descend
ghost_mx = refl

-- the wildcard itself, and an empty non-terminal
star_txt : sections (within zone 16) star ≡ answered (rr star 3600 rtype.Txt a_wildcard ∷ [])
unfolding sections descend
star_txt = refl

tcp_srv : sections (within zone 33) (codes "_tcp" ∷ host1) ≡ no_data_with apex_soa
unfolding sections descend
tcp_srv = refl

-- ---- RFC 4592, 3.3.2: closest enclosers and sources of synthesis in that zone

closest_host3 : closest zone.sets host3 ≡ example
closest_host3 = refl

source_host3 : source zone.sets host3 ≡ Some star
source_host3 = refl

closest_telnet : closest zone.sets (codes "_telnet" ∷ codes "_tcp" ∷ host1) ≡ codes "_tcp" ∷ host1
closest_telnet = refl

source_telnet : source zone.sets (codes "_telnet" ∷ codes "_tcp" ∷ host1) ≡ None
source_telnet = refl

closest_dns : closest zone.sets (codes "_dns" ∷ codes "_udp" ∷ codes "host2" ∷ example)
    ≡ codes "host2" ∷ example
closest_dns = refl

source_dns : source zone.sets (codes "_dns" ∷ codes "_udp" ∷ codes "host2" ∷ example) ≡ None
source_dns = refl

closest_telnet3 : closest zone.sets (codes "_telnet" ∷ codes "_tcp" ∷ host3) ≡ example
closest_telnet3 = refl

source_telnet3 : source zone.sets (codes "_telnet" ∷ codes "_tcp" ∷ host3) ≡ Some star
source_telnet3 = refl

closest_chat : closest zone.sets (codes "_chat" ∷ codes "_udp" ∷ host3) ≡ example
closest_chat = refl

source_chat : source zone.sets (codes "_chat" ∷ codes "_udp" ∷ host3) ≡ Some star
source_chat = refl

closest_foobar : closest zone.sets (codes "foobar" ∷ star) ≡ star
closest_foobar = refl

source_foobar : source zone.sets (codes "foobar" ∷ star) ≡ None
source_foobar = refl

-- ---- RFC 2308, 2.1 and 2.2: negative answers of the second type, which have the SOA alone

abbrev xx : List (List ℕ)
xx = codes "xx" ∷ []

abbrev tripple : List (List ℕ)
tripple = codes "tripple" ∷ xx

abbrev ns1_xx : List (List ℕ)
ns1_xx = codes "ns1" ∷ xx

abbrev xx_soa : List ℕ
xx_soa = soa_data ns1_xx (codes "hostmaster" ∷ ns1_xx) 120

abbrev xx_zone : HostedZone
xx_zone = record {
  id = 2;
  apex = xx;
  sets = simple xx rtype.Ns 86400 (wire ns1_xx ∷ wire (codes "ns2" ∷ xx) ∷ [])
      ∷ simple xx rtype.Soa 86400 (xx_soa ∷ [])
      ∷ simple (codes "an" ∷ xx) rtype.Cname 300 (wire tripple ∷ [])
      ∷ simple ns1_xx rtype.A 300 ((127 ∷ 0 ∷ 0 ∷ 2 ∷ []) ∷ []) ∷ [];
}

no_tripple : sections (within xx_zone 1) tripple ≡ no_name_with (rr xx 120 rtype.Soa xx_soa)
unfolding sections descend
no_tripple = refl

-- a CNAME record to it: RCODE is that of the last name (RFC 6604, 3)
cname_to_none : sections (within xx_zone 1) (codes "an" ∷ xx)
    ≡ record (no_name_with (rr xx 120 rtype.Soa xx_soa)) {
      answers = rr (codes "an" ∷ xx) 300 rtype.Cname (wire tripple) ∷ [];
    }
unfolding sections descend
cname_to_none = refl

no_mx : sections (within xx_zone 15) ns1_xx ≡ no_data_with (rr xx 120 rtype.Soa xx_soa)
unfolding sections descend
no_mx = refl

-- the SOA's own TTL is the lesser one
abbrev short_soa : HostedZone
short_soa = record xx_zone { sets = simple xx rtype.Soa 60 (xx_soa ∷ []) ∷ [] }

shorter : sections (within short_soa 1) tripple ≡ no_name_with (rr xx 60 rtype.Soa xx_soa)
unfolding sections descend
shorter = refl

-- ---- RFC 1034, 6.1: the root's zone, of the types that are there

abbrev arpa : List (List ℕ)
arpa = codes "arpa" ∷ []

abbrev sri_nic : List (List ℕ)
sri_nic = codes "sri-nic" ∷ arpa

abbrev usc_isic : List (List ℕ)
usc_isic = codes "usc-isic" ∷ arpa

abbrev edu : List (List ℕ)
edu = codes "edu" ∷ []

abbrev mil : List (List ℕ)
mil = codes "mil" ∷ []

abbrev a_isi : List (List ℕ)
a_isi = codes "a" ∷ codes "isi" ∷ edu

abbrev c_isi : List (List ℕ)
c_isi = codes "c" ∷ codes "isi" ∷ edu

-- 870611, 1800, 300, 604800 and 86400
abbrev root_soa : List ℕ
root_soa = wire sri_nic ++ (wire (codes "hostmaster" ∷ sri_nic) ++ (0 ∷ 0x0D ∷ 0x48 ∷ 0xD3
    ∷ 0 ∷ 0 ∷ 0x07 ∷ 0x08 ∷ 0 ∷ 0 ∷ 0x01 ∷ 0x2C ∷ 0 ∷ 0x09 ∷ 0x3A ∷ 0x80 ∷ 0 ∷ 1 ∷ 0x51 ∷ 0x80
    ∷ []))

abbrev root_zone : HostedZone
root_zone = record {
  id = 3;
  apex = [];
  sets = simple [] rtype.Ns 86400 (wire a_isi ∷ wire c_isi ∷ wire sri_nic ∷ [])
      ∷ simple [] rtype.Soa 86400 (root_soa ∷ [])
      ∷ simple sri_nic rtype.A 86400 ((26 ∷ 0 ∷ 0 ∷ 73 ∷ []) ∷ (10 ∷ 0 ∷ 0 ∷ 51 ∷ []) ∷ [])
      ∷ simple sri_nic rtype.Mx 86400 ((0 ∷ 0 ∷ wire sri_nic) ∷ [])
      ∷ simple usc_isic rtype.Cname 86400 (wire c_isi ∷ [])
      ∷ simple edu rtype.Ns 86400 (wire sri_nic ∷ wire c_isi ∷ [])
      ∷ simple a_isi rtype.A 86400 ((26 ∷ 3 ∷ 0 ∷ 103 ∷ []) ∷ [])
      ∷ simple c_isi rtype.A 86400 ((10 ∷ 0 ∷ 0 ∷ 52 ∷ []) ∷ [])
      ∷ simple mil rtype.Ns 86400 (wire sri_nic ∷ wire a_isi ∷ []) ∷ [];
}

-- 6.2.1: QNAME=SRI-NIC.ARPA, QTYPE=A
sri_nic_a : sections (within root_zone 1) sri_nic
    ≡ answered (rr sri_nic 86400 rtype.A (26 ∷ 0 ∷ 0 ∷ 73 ∷ [])
    ∷ rr sri_nic 86400 rtype.A (10 ∷ 0 ∷ 0 ∷ 51 ∷ []) ∷ [])
unfolding sections descend
sri_nic_a = refl

-- 6.2.3: QTYPE=MX; the addresses that go along there are left out (own)
sri_nic_mx : sections (within root_zone 15) sri_nic
    ≡ answered (rr sri_nic 86400 rtype.Mx (0 ∷ 0 ∷ wire sri_nic) ∷ [])
unfolding sections descend
sri_nic_mx = refl

-- 6.2.4: QTYPE=NS; the answer is empty, with the SOA of RFC 2308
sri_nic_ns : sections (within root_zone 2) sri_nic ≡ no_data_with (rr [] 86400 rtype.Soa root_soa)
unfolding sections descend
sri_nic_ns = refl

-- 6.2.5: QNAME=SIR-NIC.ARPA, QTYPE=A
sir_nic_a : sections (within root_zone 1) (codes "sir-nic" ∷ arpa)
    ≡ no_name_with (rr [] 86400 rtype.Soa root_soa)
unfolding sections descend
sir_nic_a = refl

-- 6.2.6: QNAME=BRL.MIL, QTYPE=A
brl_mil_a : sections (within root_zone 1) (codes "brl" ∷ mil)
    ≡ referral_to (rr mil 86400 rtype.Ns (wire sri_nic) ∷ rr mil 86400 rtype.Ns (wire a_isi) ∷ [])
    (rr sri_nic 86400 rtype.A (26 ∷ 0 ∷ 0 ∷ 73 ∷ [])
    ∷ rr sri_nic 86400 rtype.A (10 ∷ 0 ∷ 0 ∷ 51 ∷ [])
    ∷ rr a_isi 86400 rtype.A (26 ∷ 3 ∷ 0 ∷ 103 ∷ []) ∷ [])
unfolding sections descend
brl_mil_a = refl

-- 6.2.7: QNAME=USC-ISIC.ARPA, QTYPE=A. The CNAME record leads below a cut: AA is for the first name
-- (4.1.1 of RFC 1035; RFC 6604, 2.1).
usc_isic_a : sections (within root_zone 1) usc_isic
    ≡ record (answered (rr usc_isic 86400 rtype.Cname (wire c_isi) ∷ [])) {
      authorities = rr edu 86400 rtype.Ns (wire sri_nic) ∷ rr edu 86400 rtype.Ns (wire c_isi) ∷ [];
      additionals = rr sri_nic 86400 rtype.A (26 ∷ 0 ∷ 0 ∷ 73 ∷ [])
          ∷ rr sri_nic 86400 rtype.A (10 ∷ 0 ∷ 0 ∷ 51 ∷ [])
          ∷ rr c_isi 86400 rtype.A (10 ∷ 0 ∷ 0 ∷ 52 ∷ []) ∷ [];
    }
unfolding sections descend
usc_isic_a = refl

-- 6.2.8: QTYPE=CNAME: it isn't followed
usc_isic_cname : sections (within root_zone 5) usc_isic
    ≡ answered (rr usc_isic 86400 rtype.Cname (wire c_isi) ∷ [])
unfolding sections descend
usc_isic_cname = refl
