-- The data of a client subnet option (RFC 7871, 6).
use Rattle.std.specs.Prelude.{◌≡◌, ℕ, ◌+◌, ◌*◌, ◌-◌, ◌/◌, ◌%◌, ◌^◌, ◌<◌, ◌≤◌, List, ◌++◌, length, drop, replicate, slice_index, Result, Ok, Err, suc, zero}
use Rattle.octets.specs.Numbers.{number_at}
use Rattle.ecs_option.specs.declared.subnet.ClientSubnet.{ClientSubnet}
use Rattle.ecs_option.specs.declared.subnet.Malformed.{Malformed}

-- FAMILY, two octets
abbrev pub family_of : List ℕ → ℕ
family_of body = number_at body 0

-- SOURCE PREFIX-LENGTH, a number of bits
abbrev pub source_of : List ℕ → ℕ
source_of body = slice_index body 2

-- SCOPE PREFIX-LENGTH, which is 0 in a query
abbrev pub scope_of : List ℕ → ℕ
scope_of body = slice_index body 3

-- ADDRESS, the octets that are left
abbrev pub address_of : List ℕ → List ℕ
address_of body = drop 4 body

-- how many bits an address of a family has: none for family 0, 32 for 1 (IPv4), 128 for 2 (IPv6)
abbrev pub bits_of : ℕ → ℕ
bits_of zero = 0
bits_of (suc zero) = 32
bits_of (suc (suc n)) = 128

-- the least number of octets that have so many bits
abbrev pub octets_for : ℕ → ℕ
octets_for bits = (bits + 7) / 8

-- the bit at a place, the highest bit of the first octet at place 0
abbrev pub bit_at : List ℕ → ℕ → ℕ
bit_at bytes at = slice_index bytes (at / 8) / 2 ^ (7 - at % 8) % 2

-- every bit from a place on is 0
abbrev pub IsZeroFrom : ℕ → List ℕ → Type 0
IsZeroFrom from bytes = (at : ℕ) → from ≤ at → at < 8 * length bytes → bit_at bytes at ≡ 0

-- an address has just the octets that cover the source length, padded with zero bits
pub record FitsSource (source : ℕ) (address : List ℕ) : Type 0 where
  pub octets : length address ≡ octets_for source
  pub padding : IsZeroFrom source address

-- what is asked of an option's data
pub data Point : Type 0 where
  Length Family Source Scope Address : Point

-- the data meets a point
abbrev pub Meets : List ℕ → Point → Type 0
Meets body Length = 4 ≤ length body
Meets body Family = family_of body ≤ 2
Meets body Source = source_of body ≤ bits_of (family_of body)
Meets body Scope = scope_of body ≡ 0
Meets body Address = FitsSource (source_of body) (address_of body)

-- the data meets each point
abbrev pub IsWellFormed : List ℕ → Type 0
IsWellFormed body = (point : Point) → Meets body point

-- It is the first point, in this order, that the data doesn't meet.
abbrev pub IsFirstUnmet : List ℕ → Point → Type 0
IsFirstUnmet body Length = ¬ Meets body Length
IsFirstUnmet body Family = Meets body Length × ¬ Meets body Family
IsFirstUnmet body Source = Meets body Length × Meets body Family × ¬ Meets body Source
IsFirstUnmet body Scope = Meets body Length × Meets body Family × Meets body Source × ¬ Meets body Scope
IsFirstUnmet body Address = Meets body Length × Meets body Family × Meets body Source × Meets body Scope × ¬ Meets body Address

-- the place in the data that a point speaks of
abbrev pub place_of : List ℕ → Point → ℕ
place_of body Length = length body
place_of body Family = 0
place_of body Source = 2
place_of body Scope = 3
place_of body Address = 4

-- the subnet that the data tells, its address filled up with zeros
abbrev pub subnet_of : List ℕ → ClientSubnet
subnet_of body = record {
  family = family_of body;
  source = source_of body;
  address = address_of body ++ replicate (16 - length (address_of body)) 0;
}

-- What is read: the subnet where the data meets each point, else the place of the first that it doesn't meet.
abbrev pub Reads : List ℕ → Result ClientSubnet Malformed → Type 0
Reads body (Ok subnet) = IsWellFormed body × (subnet ≡ subnet_of body)
Reads body (Err fault) = (point : Point) × IsFirstUnmet body point × (fault.0 ≡ place_of body point)
