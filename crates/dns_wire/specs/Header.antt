-- The header of a reply (RFC 1035, 4.1.1). Z and RA are 0.
use Rattle.std.specs.Prelude.{ℕ, ◌+◌, ◌*◌, ◌<◌, List, ◌∷◌, ◌++◌, Bool, true, false, Option, None, Some}
use Rattle.octets.specs.Numbers.{two_octets}
use Rattle.dns_wire.specs.declared.header.Header.{Header}

-- a flag as a bit
abbrev pub bit_of : Bool → ℕ
bit_of true = 1
bit_of false = 0

-- ID; QR, OPCODE, AA, TC and RD; RA, Z and RCODE; the four counts
abbrev pub header_octets : Header → List ℕ
header_octets h =
    two_octets h.id
    ++ ((128 + 8 * h.opcode + 4 * bit_of h.aa + 2 * bit_of h.tc + bit_of h.rd) ∷ h.rcode ∷ two_octets h.qdcount)
    ++ two_octets h.ancount
    ++ two_octets h.nscount
    ++ two_octets h.arcount

-- the reply of a header alone
abbrev pub short_reply : (id opcode : ℕ) (rd : Bool) (rcode : ℕ) → List ℕ
short_reply id opcode rd rcode = header_octets (record {
  id = id;
  opcode = opcode;
  aa = false;
  tc = false;
  rd = rd;
  rcode = rcode;
  qdcount = 0;
  ancount = 0;
  nscount = 0;
  arcount = 0;
})

-- RCODE has four bits, and twelve where there is an OPT record (RFC 6891, 6.1.3).
abbrev pub FitsRcode : {A : Type 0} → (rcode : ℕ) → (opt : Option A) → Type 0
FitsRcode rcode None = rcode < 16
FitsRcode rcode (Some opt) = rcode < 4096
