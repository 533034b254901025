-- Reading a CIDR block from left to right (FORMATS, Octets of commands).
use Rattle.std.specs.Prelude.{◌==◌, ℕ, ◌-◌, ◌%◌, ◌^◌, List, [], ◌∷◌, length, take, drop, Bool}
use Rattle.std.specs.Prelude.{nat_le, nat_lt, ◌&&◌, if◌then◌else◌, Result, Ok, Err}
use Rattle.block_octets.specs.Reading.{octet_at}
use Rattle.block_octets.specs.Readers.{Reader, mapped, in_turn_by, tested, kinds}
use Rattle.block_octets.specs.IpAddressRecord.{IpAddress}
use Rattle.block_octets.specs.IpAddressRecord.TheVariants.{V4, V6}
use Rattle.block_octets.specs.Bits.{width_of, number_of}
use Rattle.block_octets.specs.Prefixes.{Prefix}

-- so many octets, as they are
abbrev pub octets_at : (count : ℕ) → Reader (List ℕ)
octets_at count octets =
    if nat_lt (length octets) count then Err 0 else Ok (take count octets, drop count octets)

-- an address of either version
abbrev pub short_address_at : Reader IpAddress
short_address_at octets = mapped V4 (octets_at 4) octets

abbrev pub long_address_at : Reader IpAddress
long_address_at octets = mapped V6 (octets_at 16) octets

-- The length of a prefix: it has no more bits than its address, and no later bit is set.
abbrev pub is_length : IpAddress → ℕ → Bool
is_length address length =
    nat_le length (width_of address) && number_of address % 2 ^ (128 - length) == 0

abbrev pub length_at : IpAddress → Reader ℕ
length_at address octets = tested (is_length address) octet_at octets

-- a prefix: its address and its length
abbrev pub prefix_of : IpAddress × ℕ → Prefix
prefix_of fields = record { address = fields.0; length = fields.1 }

-- a prefix whose address was read
abbrev pub prefix_at : IpAddress → Reader Prefix
prefix_at address octets = mapped (λ length. prefix_of (address, length)) (length_at address) octets

unfoldable pub short_at : List ℕ → Result (Prefix × List ℕ) ℕ
short_at octets = mapped prefix_of (in_turn_by short_address_at length_at) octets

unfoldable pub long_at : List ℕ → Result (Prefix × List ℕ) ℕ
long_at octets = mapped prefix_of (in_turn_by long_address_at length_at) octets

-- the versions of addresses, a line each
abbrev pub block_lines : List (ℕ × Reader Prefix)
block_lines = (4, short_at) ∷ (6, long_at) ∷ []

unfoldable pub block_at : List ℕ → Result (Prefix × List ℕ) ℕ
block_at octets = kinds block_lines octets
