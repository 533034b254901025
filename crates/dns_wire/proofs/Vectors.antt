-- Replies as published servers write them, octet by octet.
use Rattle.std.proofs.Common.{◌≡◌, ℕ, List, [], ◌∷◌, ◌++◌, refl, true, false}
use Rattle.std.specs.Prelude.{codes, Option, None, Some}
use Rattle.dns_message.specs.declared.query.Edns.{Edns}
use Rattle.octets.specs.Numbers.{four_octets}
use Rattle.rdata_layout.specs.Labels.{wire as name_wire}
use Rattle.rdata_layout.specs.declared.types.RType.TheVariants.{A, Ns, Cname, Soa, Ptr, Mx, Srv}
use Rattle.dns_wire.specs.Header.{short_reply}
use Rattle.dns_wire.specs.Draft.{opt_of}
use Rattle.dns_wire.specs.Limit.{limit_of}
use Rattle.dns_wire.specs.Message.{opt_octets, octets_within}
use Rattle.dns_wire.specs.Data.{data_octets}
use Rattle.dns_wire.specs.Pointers.{name_octets}

-- opcode 5 (UPDATE) with RD, answered NOTIMP
pub not_implemented : short_reply 0x1234 5 true 4 ≡ 0x12 ∷ 0x34 ∷ 0xA9 ∷ 0x04 ∷ 0 ∷ 0 ∷ 0 ∷ 0 ∷ 0
    ∷ 0 ∷ 0 ∷ 0 ∷ []
not_implemented = refl

abbrev example : List (List ℕ)
example = codes "example" ∷ codes "com" ∷ []

-- Names against a question for x.sub.example.com: that name, one that ends with sub.example.com,
-- one that ends with com,
-- a sibling whose label ends alike, the root, and one with nothing in common.
abbrev asked : List (List ℕ)
asked = codes "x" ∷ codes "sub" ∷ example

pub itself : name_octets asked asked ≡ 0xC0 ∷ 12 ∷ []
itself = refl

pub parent : name_octets asked (codes "sub" ∷ example) ≡ 0xC0 ∷ 14 ∷ []
parent = refl

pub beside : name_octets asked (codes "ns1" ∷ codes "sub" ∷ example)
    ≡ 3 ∷ 0x6E ∷ 0x73 ∷ 0x31 ∷ 0xC0 ∷ 14 ∷ []
beside = refl

pub top : name_octets asked (codes "net" ∷ codes "com" ∷ []) ≡ 3 ∷ 0x6E ∷ 0x65 ∷ 0x74 ∷ 0xC0 ∷ 26
    ∷ []
top = refl

pub within_label : name_octets asked (codes "b" ∷ []) ≡ 1 ∷ 0x62 ∷ 0 ∷ []
within_label = refl

pub root : name_octets asked [] ≡ 0 ∷ []
root = refl

-- the first of two equal labels is not the end of the question's name (RFC 1035, 4.1.4: a pointer
-- is to the end of a name)
pub repeated : name_octets (codes "a" ∷ codes "a" ∷ []) (codes "a" ∷ []) ≡ 0xC0 ∷ 14 ∷ []
repeated = refl

-- an exchange is compressed, and the preference before it stays
pub exchange : data_octets example Mx (0 ∷ 10 ∷ name_wire (codes "mail" ∷ example))
    ≡ 0 ∷ 10 ∷ 4 ∷ 0x6D ∷ 0x61 ∷ 0x69 ∷ 0x6C ∷ 0xC0 ∷ 12 ∷ []
exchange = refl

-- the names of CNAME and PTR are compressed
pub canonical : data_octets example Cname (name_wire (codes "mail" ∷ example))
    ≡ 4 ∷ 0x6D ∷ 0x61 ∷ 0x69 ∷ 0x6C ∷ 0xC0 ∷ 12 ∷ []
canonical = refl

pub pointed : data_octets example Ptr (name_wire (codes "mail" ∷ example))
    ≡ 4 ∷ 0x6D ∷ 0x61 ∷ 0x69 ∷ 0x6C ∷ 0xC0 ∷ 12 ∷ []
pointed = refl

-- the target of SRV is whole (RFC 2782)
pub target : data_octets example Srv (0 ∷ 1 ∷ 0 ∷ 2 ∷ 0x01 ∷ 0xBB ∷ name_wire example)
    ≡ 0 ∷ 1 ∷ 0 ∷ 2 ∷ 0x01 ∷ 0xBB ∷ name_wire example
target = refl

-- an address of `a`, TTL 300, with AA and RD
pub address : octets_within (record {
  id = 0x1234;
  aa = true;
  rd = true;
  rcode = 0;
  name = (0x61 ∷ []) ∷ [];
  question = 1 ∷ 0x61 ∷ 0 ∷ 0 ∷ 1 ∷ 0 ∷ 1 ∷ [];
  answers = record { owner = (0x61 ∷ []) ∷ []; rtype = A; ttl = 300; rdata = 192 ∷ 0 ∷ 2 ∷ 1 ∷ [] }
      ∷ [];
  authorities = [];
  additionals = [];
  opt = None;
}) 512 ≡ 0x12 ∷ 0x34 ∷ 0x85 ∷ 0x00 ∷ 0 ∷ 1 ∷ 0 ∷ 1 ∷ 0 ∷ 0 ∷ 0 ∷ 0
    ∷ 1 ∷ 0x61 ∷ 0 ∷ 0 ∷ 1 ∷ 0 ∷ 1
    ∷ 0xC0 ∷ 0x0C ∷ 0 ∷ 1 ∷ 0 ∷ 1 ∷ 0 ∷ 0 ∷ 0x01 ∷ 0x2C ∷ 0 ∷ 4 ∷ 192 ∷ 0 ∷ 2 ∷ 1 ∷ []
unfolding octets_within
address = refl

-- the same, where it may have 34 octets: one too few
pub cut_address : octets_within (record {
  id = 0x1234;
  aa = true;
  rd = true;
  rcode = 0;
  name = (0x61 ∷ []) ∷ [];
  question = 1 ∷ 0x61 ∷ 0 ∷ 0 ∷ 1 ∷ 0 ∷ 1 ∷ [];
  answers = record { owner = (0x61 ∷ []) ∷ []; rtype = A; ttl = 300; rdata = 192 ∷ 0 ∷ 2 ∷ 1 ∷ [] }
      ∷ [];
  authorities = [];
  additionals = [];
  opt = None;
}) 34 ≡ 0x12 ∷ 0x34 ∷ 0x87 ∷ 0x00 ∷ 0 ∷ 1 ∷ 0 ∷ 0 ∷ 0 ∷ 0 ∷ 0 ∷ 0 ∷ 1 ∷ 0x61 ∷ 0 ∷ 0 ∷ 1 ∷ 0 ∷ 1
    ∷ []
unfolding octets_within
cut_address = refl

-- REFUSED for the root, without AA
pub refused : octets_within (record {
  id = 1;
  aa = false;
  rd = false;
  rcode = 5;
  name = [];
  question = 0 ∷ 0 ∷ 1 ∷ 0 ∷ 1 ∷ [];
  answers = [];
  authorities = [];
  additionals = [];
  opt = None;
}) 512 ≡ 0 ∷ 1 ∷ 0x80 ∷ 0x05 ∷ 0 ∷ 1 ∷ 0 ∷ 0 ∷ 0 ∷ 0 ∷ 0 ∷ 0 ∷ 0 ∷ 0 ∷ 1 ∷ 0 ∷ 1 ∷ []
unfolding octets_within
refused = refl

-- NXDOMAIN for nope.example.com: the SOA of example.com with TTL 900, whose second name ends with
-- com too
pub no_such_name : octets_within (record {
  id = 0x1234;
  aa = true;
  rd = true;
  rcode = 3;
  name = codes "nope" ∷ example;
  question = name_wire (codes "nope" ∷ example) ++ 0 ∷ 1 ∷ 0 ∷ 1 ∷ [];
  answers = [];
  authorities = record {
    owner = example;
    rtype = Soa;
    ttl = 900;
    rdata = name_wire (codes "ns1" ∷ codes "r53" ∷ codes "invalid" ∷ [])
        ++ (name_wire (codes "awsdns-hostmaster" ∷ codes "amazon" ∷ codes "com" ∷ [])
        ++ (four_octets 1 ++ four_octets 7200 ++ four_octets 900 ++ four_octets 1209600
        ++ four_octets 86400));
  } ∷ [];
  additionals = [];
  opt = None;
}) 512 ≡ 0x12 ∷ 0x34 ∷ 0x85 ∷ 3 ∷ 0 ∷ 1 ∷ 0 ∷ 0 ∷ 0 ∷ 1 ∷ 0 ∷ 0
    ∷ 4 ∷ 0x6E ∷ 0x6F ∷ 0x70 ∷ 0x65 ∷ 7 ∷ 0x65 ∷ 0x78 ∷ 0x61 ∷ 0x6D ∷ 0x70 ∷ 0x6C ∷ 0x65 ∷ 3 ∷ 0x63
    ∷ 0x6F ∷ 0x6D ∷ 0 ∷ 0 ∷ 1 ∷ 0 ∷ 1
    ∷ 0xC0 ∷ 0x11 ∷ 0 ∷ 6 ∷ 0 ∷ 1 ∷ 0 ∷ 0 ∷ 3 ∷ 0x84
    ∷ 0 ∷ 0x40 ∷ 3 ∷ 0x6E ∷ 0x73 ∷ 0x31 ∷ 3 ∷ 0x72 ∷ 0x35 ∷ 0x33
    ∷ 7 ∷ 0x69 ∷ 0x6E ∷ 0x76 ∷ 0x61 ∷ 0x6C ∷ 0x69 ∷ 0x64 ∷ 0
    ∷ 0x11 ∷ 0x61 ∷ 0x77 ∷ 0x73 ∷ 0x64 ∷ 0x6E ∷ 0x73 ∷ 0x2D ∷ 0x68 ∷ 0x6F ∷ 0x73 ∷ 0x74 ∷ 0x6D
    ∷ 0x61 ∷ 0x73 ∷ 0x74 ∷ 0x65 ∷ 0x72
    ∷ 6 ∷ 0x61 ∷ 0x6D ∷ 0x61 ∷ 0x7A ∷ 0x6F ∷ 0x6E ∷ 0xC0 ∷ 0x19
    ∷ 0 ∷ 0 ∷ 0 ∷ 1 ∷ 0 ∷ 0 ∷ 0x1C ∷ 0x20 ∷ 0 ∷ 0 ∷ 3 ∷ 0x84 ∷ 0 ∷ 0x12 ∷ 0x75 ∷ 0 ∷ 0 ∷ 1 ∷ 0x51
    ∷ 0x80 ∷ []
unfolding octets_within
no_such_name = refl

-- a referral for x.sub.example.com: the name server of sub.example.com, and its address
pub referral : octets_within (record {
  id = 0x1234;
  aa = false;
  rd = true;
  rcode = 0;
  name = asked;
  question = name_wire asked ++ 0 ∷ 1 ∷ 0 ∷ 1 ∷ [];
  answers = [];
  authorities = record {
    owner = codes "sub" ∷ example;
    rtype = Ns;
    ttl = 3600;
    rdata = name_wire (codes "ns1" ∷ codes "sub" ∷ example);
  } ∷ [];
  additionals = record {
    owner = codes "ns1" ∷ codes "sub" ∷ example;
    rtype = A;
    ttl = 3600;
    rdata = 192 ∷ 0 ∷ 2 ∷ 53 ∷ [];
  } ∷ [];
  opt = None;
}) 512 ≡ 0x12 ∷ 0x34 ∷ 0x81 ∷ 0 ∷ 0 ∷ 1 ∷ 0 ∷ 0 ∷ 0 ∷ 1 ∷ 0 ∷ 1
    ∷ 1 ∷ 0x78 ∷ 3 ∷ 0x73 ∷ 0x75 ∷ 0x62 ∷ 7 ∷ 0x65 ∷ 0x78 ∷ 0x61 ∷ 0x6D ∷ 0x70 ∷ 0x6C ∷ 0x65 ∷ 3
    ∷ 0x63 ∷ 0x6F ∷ 0x6D ∷ 0 ∷ 0 ∷ 1 ∷ 0 ∷ 1
    ∷ 0xC0 ∷ 0x0E ∷ 0 ∷ 2 ∷ 0 ∷ 1 ∷ 0 ∷ 0 ∷ 0x0E ∷ 0x10 ∷ 0 ∷ 6 ∷ 3 ∷ 0x6E ∷ 0x73 ∷ 0x31 ∷ 0xC0
    ∷ 0x0E
    ∷ 3 ∷ 0x6E ∷ 0x73 ∷ 0x31 ∷ 0xC0 ∷ 0x0E ∷ 0 ∷ 1 ∷ 0 ∷ 1 ∷ 0 ∷ 0 ∷ 0x0E ∷ 0x10 ∷ 0 ∷ 4 ∷ 0xC0 ∷ 0
    ∷ 2 ∷ 0x35 ∷ []
unfolding octets_within
referral = refl

-- ---- OPT records (RFC 6891, 6.1)

-- without DO and options: the root, TYPE 41, 4,096 octets, version 0
pub plain_opt : opt_octets 0 (opt_of (Some (record { size = 1232; dnssec_ok = false; subnet = None })) 0)
    ≡ 0 ∷ 0 ∷ 0x29 ∷ 0x10 ∷ 0 ∷ 0 ∷ 0 ∷ 0 ∷ 0 ∷ 0 ∷ 0 ∷ []
plain_opt = refl

-- BADVERS (16) has its upper eight bits here, and DO is copied
pub bad_version : opt_octets 16 (opt_of (Some (record { size = 1232; dnssec_ok = true; subnet = None })) 0)
    ≡ 0 ∷ 0 ∷ 0x29 ∷ 0x10 ∷ 0 ∷ 1 ∷ 0 ∷ 0x80 ∷ 0 ∷ 0 ∷ 0 ∷ []
bad_version = refl

-- a client subnet of 198.51.100.0/24 with scope 17 (RFC 7871, 6)
abbrev told : Edns
told = record {
  size = 1232;
  dnssec_ok = false;
  subnet = Some (record {
    family = 1;
    source = 24;
    address = 198 ∷ 51 ∷ 100 ∷ 0 ∷ 0 ∷ 0 ∷ 0 ∷ 0 ∷ 0 ∷ 0 ∷ 0 ∷ 0 ∷ 0 ∷ 0 ∷ 0 ∷ 0 ∷ [];
  });
}

pub subnet_opt : opt_octets 0 (opt_of (Some told) 17)
    ≡ 0 ∷ 0 ∷ 0x29 ∷ 0x10 ∷ 0 ∷ 0 ∷ 0 ∷ 0 ∷ 0 ∷ 0 ∷ 11
    ∷ 0 ∷ 8 ∷ 0 ∷ 7 ∷ 0 ∷ 1 ∷ 0x18 ∷ 0x11 ∷ 0xC6 ∷ 0x33 ∷ 0x64 ∷ []
subnet_opt = refl

-- BADVERS for the root: the lower four bits are in the header, and the OPT record is counted
pub refused_version : octets_within (record {
  id = 0x1234;
  aa = false;
  rd = true;
  rcode = 16;
  name = [];
  question = 0 ∷ 0 ∷ 1 ∷ 0 ∷ 1 ∷ [];
  answers = [];
  authorities = [];
  additionals = [];
  opt = opt_of (Some (record { size = 1232; dnssec_ok = false; subnet = None })) 0;
}) 512 ≡ 0x12 ∷ 0x34 ∷ 0x81 ∷ 0 ∷ 0 ∷ 1 ∷ 0 ∷ 0 ∷ 0 ∷ 0 ∷ 0 ∷ 1 ∷ 0 ∷ 0 ∷ 1 ∷ 0 ∷ 1
    ∷ 0 ∷ 0 ∷ 0x29 ∷ 0x10 ∷ 0 ∷ 1 ∷ 0 ∷ 0 ∷ 0 ∷ 0 ∷ 0 ∷ []
unfolding octets_within
refused_version = refl

-- an address of `a` where 45 octets are too few for it with its OPT record: that stays
pub cut_with_opt : octets_within (record {
  id = 0x1234;
  aa = true;
  rd = true;
  rcode = 0;
  name = (0x61 ∷ []) ∷ [];
  question = 1 ∷ 0x61 ∷ 0 ∷ 0 ∷ 1 ∷ 0 ∷ 1 ∷ [];
  answers = record { owner = (0x61 ∷ []) ∷ []; rtype = A; ttl = 300; rdata = 192 ∷ 0 ∷ 2 ∷ 1 ∷ [] }
      ∷ [];
  authorities = [];
  additionals = [];
  opt = opt_of (Some (record { size = 512; dnssec_ok = false; subnet = None })) 0;
}) 45 ≡ 0x12 ∷ 0x34 ∷ 0x87 ∷ 0x00 ∷ 0 ∷ 1 ∷ 0 ∷ 0 ∷ 0 ∷ 0 ∷ 0 ∷ 1 ∷ 1 ∷ 0x61 ∷ 0 ∷ 0 ∷ 1 ∷ 0 ∷ 1
    ∷ 0 ∷ 0 ∷ 0x29 ∷ 0x10 ∷ 0 ∷ 0 ∷ 0 ∷ 0 ∷ 0 ∷ 0 ∷ 0 ∷ []
unfolding octets_within
cut_with_opt = refl

-- ---- how many octets a reply may have

abbrev of_size : ℕ → Option Edns
of_size size = Some (record { size = size; dnssec_ok = false; subnet = None })

pub without_edns : limit_of None ≡ 512
without_edns = refl

pub limits : limit_of (of_size 0) ∷ limit_of (of_size 511) ∷ limit_of (of_size 512) ∷ limit_of (of_size 513)
    ∷ limit_of (of_size 4095) ∷ limit_of (of_size 4096) ∷ limit_of (of_size 4097) ∷ limit_of (of_size 65535) ∷ []
    ≡ 512 ∷ 512 ∷ 512 ∷ 513 ∷ 4095 ∷ 4096 ∷ 4096 ∷ 4096 ∷ []
limits = refl
