-- Headers and additional records octet by octet (RFC 1035, 4.1.1 and 4.1.3; RFC 6891, 6.1).
use Rattle.std.proofs.Common.{◌≡◌, ℕ, List, [], ◌∷◌, refl, arith, true, false}
use Rattle.std.specs.Prelude.{None, Some}
use Rattle.dns_message.specs.Edns.{AreOptions, EdnsOption, dnssec_ok_of, first_body, opts_of, version_of}
use Rattle.dns_message.specs.Records.{AnyRecord, BeginsWithRecord, IsOwner, record_of}
use Rattle.dns_message.specs.Records.IsOwner.{ends, goes_on, points}
use Rattle.dns_message.specs.declared.rcode.TheConstants.{BADVERS, FORMERR, NOTIMP, NXDOMAIN, REFUSED}
use Rattle.dns_message.specs.Header.{id_of, qr_of, opcode_of, rd_of, qdcount_of, ancount_of, nscount_of, arcount_of}

-- ID 0x1234, opcode 5 (UPDATE), RD, one question and 258 additional records
abbrev update : List ℕ
update = 0x12 ∷ 0x34 ∷ 0x29 ∷ 0x00 ∷ 0 ∷ 1 ∷ 0 ∷ 0 ∷ 0 ∷ 0 ∷ 1 ∷ 2 ∷ []

-- ID 0x1234, QR, AA, RD, 2 answers, 3 authorities
abbrev response : List ℕ
response = 0x12 ∷ 0x34 ∷ 0x85 ∷ 0x00 ∷ 0 ∷ 1 ∷ 0 ∷ 2 ∷ 0 ∷ 3 ∷ 1 ∷ 2 ∷ []

pub id : id_of update ≡ 0x1234
id = refl

pub query : qr_of update ≡ 0
query = refl

pub response_bit : qr_of response ≡ 1
response_bit = refl

pub opcode : opcode_of update ≡ 5
opcode = refl

pub recursion_desired : rd_of update ≡ true
recursion_desired = refl

pub questions : qdcount_of update ≡ 1
questions = refl

pub answers : ancount_of response ≡ 2
answers = refl

pub authorities : nscount_of response ≡ 3
authorities = refl

pub additionals : arcount_of update ≡ 258
additionals = refl

-- RCODE: Format Error, Name Error, Not Implemented and Refused (RFC 1035, 4.1.1), and BADVERS (RFC 6891, 9)
pub codes : FORMERR ∷ NXDOMAIN ∷ NOTIMP ∷ REFUSED ∷ BADVERS ∷ [] ≡ 1 ∷ 3 ∷ 4 ∷ 5 ∷ 16 ∷ []
codes = refl

-- ---- additional records

-- An OPT record as dig writes it: 1,232 octets, version 0, DO, and a cookie (code 10) of eight octets (RFC 7873, 4).
abbrev opt : List ℕ
opt = 0 ∷ 0 ∷ 41 ∷ 0x04 ∷ 0xD0 ∷ 0 ∷ 0 ∷ 0x80 ∷ 0 ∷ 0 ∷ 12
    ∷ 0 ∷ 10 ∷ 0 ∷ 8 ∷ 1 ∷ 2 ∷ 3 ∷ 4 ∷ 5 ∷ 6 ∷ 7 ∷ 8 ∷ []

abbrev cookie : EdnsOption
cookie = record { code = 10; body = 1 ∷ 2 ∷ 3 ∷ 4 ∷ 5 ∷ 6 ∷ 7 ∷ 8 ∷ [] }

abbrev opt_record : AnyRecord
opt_record = record_of opt 1

pub owner : opt_record.owner ≡ 0 ∷ []
owner = refl

pub rtype : opt_record.rtype ≡ 41
rtype = refl

pub payload : opt_record.class ≡ 1232
payload = refl

pub version : version_of opt_record ≡ 0
version = refl

pub dnssec_ok : dnssec_ok_of opt_record ≡ true
dnssec_ok = refl

pub options : AreOptions opt_record.rdata (cookie ∷ [])
options = (omega arith, refl, refl)

pub no_subnet : first_body 8 (cookie ∷ []) ≡ None
no_subnet = refl

pub one_opt : opts_of (opt_record ∷ []) ≡ opt_record ∷ []
one_opt = refl

pub whole : BeginsWithRecord opt opt_record 23
whole = record { owner_len = 1; owner = ends; sized = refl; whole = omega arith; fields = refl }

-- version 1 without DO, as four octets of TTL
pub newer_version : version_of (record opt_record { ttl = 0x00010000 }) ≡ 1
newer_version = refl

pub no_dnssec : dnssec_ok_of (record opt_record { ttl = 0x00017FFF }) ≡ false
no_dnssec = refl

-- the first of two options with code 8 is the one
pub first_subnet : first_body 8 (cookie ∷ record { code = 8; body = 0 ∷ [] } ∷ record { code = 8; body = [] } ∷ [])
    ≡ Some (0 ∷ [])
first_subnet = refl

-- an owner of a label and a pointer (RFC 1035, 4.1.4)
pub with_pointer : IsOwner (3 ∷ 0x77 ∷ 0x77 ∷ 0x77 ∷ 0xC0 ∷ 0x0C ∷ [])
with_pointer =
    goes_on (0x77 ∷ 0x77 ∷ 0x77 ∷ []) (0xC0 ∷ 0x0C ∷ [])
    (record { filled = omega arith; short = omega arith }) (points 0xC0 0x0C (omega arith))
