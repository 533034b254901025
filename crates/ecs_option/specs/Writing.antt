-- What a reply says of the client's subnet (RFC 7871, 6 and 7.2.1).
use Rattle.std.specs.Prelude.{◌≡◌, ℕ, ◌-◌, ◌≤◌, List, ◌∷◌, ◌++◌, length, take, replicate}
use Rattle.octets.specs.Numbers.{two_octets}
use Rattle.ecs_option.specs.declared.subnet.ClientSubnet.{ClientSubnet}
use Rattle.ecs_option.specs.Grammar.{bits_of, octets_for, FitsSource}

-- the octets of the address that cover the source length
abbrev pub used_of : ClientSubnet → List ℕ
used_of subnet = take (octets_for subnet.source) subnet.address

-- It is one that an option's data tells.
pub record IsSubnet (subnet : ClientSubnet) : Type 0 where
  pub family : subnet.family ≤ 2
  pub source : subnet.source ≤ bits_of subnet.family
  pub used : FitsSource subnet.source (used_of subnet)
  pub behind : subnet.address ≡ used_of subnet ++ replicate (16 - octets_for subnet.source) 0

-- the option's data: family, source length, scope length, address
abbrev pub data_of : ClientSubnet → (scope : ℕ) → List ℕ
data_of subnet scope = two_octets subnet.family ++ (subnet.source ∷ scope ∷ used_of subnet)

-- the option: its code, the length of its data, and the data (RFC 6891, 6.1.2)
abbrev pub option_of : ClientSubnet → (scope : ℕ) → List ℕ
option_of subnet scope = two_octets 8 ++ two_octets (length (data_of subnet scope)) ++ data_of subnet scope
