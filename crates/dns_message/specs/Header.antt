-- The header of a message (RFC 1035, 4.1.1).
use Rattle.std.specs.Prelude.{◌≡◌, ℕ, ◌/◌, ◌%◌, List, Bool, slice_index, ◌==◌}
use Rattle.octets.specs.Numbers.{number_at}

-- ID
abbrev pub id_of : List ℕ → ℕ
id_of packet = number_at packet 0

-- QR: 0 is a query, 1 a response
abbrev pub qr_of : List ℕ → ℕ
qr_of packet = slice_index packet 2 / 128

-- OPCODE, the four bits below QR
abbrev pub opcode_of : List ℕ → ℕ
opcode_of packet = slice_index packet 2 / 8 % 16

-- RD, the lowest bit of that octet
abbrev pub rd_of : List ℕ → Bool
rd_of packet = slice_index packet 2 % 2 == 1

-- QDCOUNT, ANCOUNT, NSCOUNT, ARCOUNT
abbrev pub qdcount_of : List ℕ → ℕ
qdcount_of packet = number_at packet 4

abbrev pub ancount_of : List ℕ → ℕ
ancount_of packet = number_at packet 6

abbrev pub nscount_of : List ℕ → ℕ
nscount_of packet = number_at packet 8

abbrev pub arcount_of : List ℕ → ℕ
arcount_of packet = number_at packet 10

-- one question, no answers and no authority
pub record HasQueryCounts (packet : List ℕ) : Type 0 where
  pub questions : qdcount_of packet ≡ 1
  pub answers : ancount_of packet ≡ 0
  pub authority : nscount_of packet ≡ 0
