-- Prefixes of addresses (RFC 4632, 3.1; RFC 4291, 2.3).
use Rattle.std.specs.Prelude.{◌≡◌, ℕ, ◌-◌, ◌%◌, ◌^◌, ◌≤◌}
use Rattle.address_text.specs.declared.address.IpAddress.{IpAddress}
use Rattle.ip_table.specs.Bits.{width_of, number_of, SharesFirst, IsAddress}

-- a prefix: its first address, and how many bits of it count
pub record Prefix : Type 0 where
  pub address : IpAddress
  pub length : ℕ

-- The address has so many bits, and each later bit is 0.
pub record IsPrefix (address : IpAddress) (length : ℕ) : Type 0 where
  pub octets : IsAddress address
  pub within : length ≤ width_of address
  pub zeros : number_of address % 2 ^ (128 - length) ≡ 0

-- The address begins with the bits of the prefix.
abbrev pub Covers : Prefix → IpAddress → Type 0
Covers prefix address = SharesFirst prefix.length prefix.address address

-- The prefix lies inside the address's prefix of n bits.
abbrev pub LiesInside : Prefix → (n : ℕ) → IpAddress → Type 0
LiesInside prefix n address = (n ≤ prefix.length) × SharesFirst n prefix.address address
