-- The bits of an address, the highest bit of the first octet first.
use Rattle.std.specs.Prelude.{◌≡◌, ℕ, ◌-◌, ◌*◌, ◌/◌, ◌^◌, ◌<◌, List, length, slice_index}
use Rattle.std.specs.Int.{from_be_bytes, w32, w128}
use Rattle.address_text.specs.declared.address.IpAddress.{IpAddress}
use Rattle.address_text.specs.declared.address.IpAddress.TheVariants.{V4, V6}

-- how many bits an address has
abbrev pub width_of : IpAddress → ℕ
width_of (V4 octets) = 32
width_of (V6 octets) = 128

-- the number that its bits spell, filled up with zeros to 128 bits
unfoldable pub number_of : IpAddress → ℕ
number_of (V4 octets) = from_be_bytes w32 octets * 2 ^ 96
number_of (V6 octets) = from_be_bytes w128 octets

-- the number that its first n bits spell
abbrev pub first_bits : ℕ → IpAddress → ℕ
first_bits n address = number_of address / 2 ^ (128 - n)

-- Two addresses are of one family and have their first n bits in common.
pub record SharesFirst (n : ℕ) (a b : IpAddress) : Type 0 where
  pub family : width_of a ≡ width_of b
  pub bits : first_bits n a ≡ first_bits n b

-- so many octets
pub record AreOctets (count : ℕ) (octets : List ℕ) : Type 0 where
  pub long : length octets ≡ count
  pub each : (i : ℕ) → slice_index octets i < 256

-- an address as it is written: four octets, or sixteen
abbrev pub IsAddress : IpAddress → Type 0
IsAddress (V4 octets) = AreOctets 4 octets
IsAddress (V6 octets) = AreOctets 16 octets
