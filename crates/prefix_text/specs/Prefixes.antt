-- The texts of prefixes of addresses (RFC 4632, 3.1; RFC 4291, 2.3).
use Rattle.std.specs.Prelude.{ℕ, ◌+◌, ◌-◌, ◌%◌, ◌^◌, ◌==◌, ◌&&◌, nat_le, List, [], ◌∷◌, take, drop}
use Rattle.std.specs.Prelude.{Option, None, Some, if◌then◌else◌}
use Rattle.ip_table.specs.AddressOfText.{ipv4_of, ipv6_of}
use Rattle.ip_table.specs.IpAddressRecord.{IpAddress}
use Rattle.ip_table.specs.IpAddressRecord.TheVariants.{V4, V6}
use Rattle.ip_table.specs.Bits.{width_of, number_of}
use Rattle.ip_table.specs.Prefixes.{Prefix}
use Rattle.prefix_text.specs.Marks.{place_of}
use Rattle.value_text.specs.Numbers.{number}

-- decimal digits of a value that is at most this, without leading zeros
abbrev pub plain_number : (most : ℕ) → List ℕ → Option ℕ
plain_number most [] = None
plain_number most (first ∷ []) = number most (first ∷ [])
plain_number most (first ∷ second ∷ rest) =
    if first == 0x30 then None else number most (first ∷ second ∷ rest)

-- an address of either version
abbrev pub known : Option (List ℕ) → Option (List ℕ) → Option IpAddress
known (Some octets) other = Some (V4 octets)
known None (Some octets) = Some (V6 octets)
known None None = None

abbrev pub address_of_text : List ℕ → Option IpAddress
address_of_text text = known (ipv4_of text) (ipv6_of text)

-- the prefix of an address with so many bits, where it has so many and each later one is 0
abbrev pub block_of : IpAddress → (length : ℕ) → Option Prefix
block_of address length =
    if nat_le length (width_of address) && number_of address % 2 ^ (128 - length) == 0
    then Some (record { address = address; length = length }) else None

abbrev pub block_of_parts : Option IpAddress → (length : Option ℕ) → Option Prefix
block_of_parts None length = None
block_of_parts (Some address) None = None
block_of_parts (Some address) (Some length) = block_of address length

-- An address, `/` and the length.
abbrev pub around : List ℕ → (place : Option ℕ) → Option Prefix
around text None = None
around text (Some at) =
    block_of_parts (address_of_text (take at text)) (plain_number 128 (drop (at + 1) text))

abbrev pub prefix_of_text : List ℕ → Option Prefix
prefix_of_text text = around text (place_of 0x2F text)
