-- Where an address is located among rows by prefixes: the longest row that contains it, and how far
-- that answer reaches (RFC 7871, 7.2.1).
use Rattle.std.specs.Prelude.{ℕ, zero, suc, ◌+◌, ◌-◌, List, [], ◌∷◌, Bool, true, ◌==◌, nat_lt}
use Rattle.std.specs.Prelude.{nat_le, ◌&&◌, Option, None, Some, if◌then◌else◌}
use Rattle.std.specs.List.{list_any}
use Rattle.std.specs.Option.{option_map}
use Rattle.address_text.specs.declared.address.IpAddress.{IpAddress}
use Rattle.cidr_blocks.specs.Bits.{first_bits, width_of}
use Rattle.cidr_blocks.specs.Location.{length_of}
use Rattle.cidr_blocks.specs.Prefixes.{Prefix}

-- both are of one family, and have their first n bits in common
abbrev pub shares_first : ℕ → (address other : IpAddress) → Bool
shares_first n address other =
    width_of address == width_of other && first_bits n address == first_bits n other

-- the address begins with the bits of the prefix
abbrev pub covers : Prefix → IpAddress → Bool
covers prefix address = shares_first prefix.length prefix.address address

-- the longer of two rows
abbrev pub longer : {V : Type 0} → Prefix × V → Option (Prefix × V) → Prefix × V
longer row None = row
longer row (Some other) = if nat_lt row.0.length other.0.length then other else row

-- the longest row that contains the address
abbrev pub found_in : {V : Type 0} → List (Prefix × V) → IpAddress → Option (Prefix × V)
found_in [] address = None
found_in (row ∷ rows) address =
    if covers row.0 address then Some (longer row (found_in rows address))
    else found_in rows address

-- what that row tells
abbrev pub told_in : {V : Type 0} → List (Prefix × V) → IpAddress → Option V
told_in {V} rows address = option_map (λ (row : Prefix × V). row.1) (found_in rows address)

-- a prefix is longer than the row that was found; any is where none was
abbrev pub is_longer : {V : Type 0} → Option (Prefix × V) → Prefix → Bool
is_longer None prefix = true
is_longer (Some found) prefix = nat_lt found.0.length prefix.length

-- the prefix lies inside the address's prefix of n bits
abbrev pub lies_inside : Prefix → (n : ℕ) → IpAddress → Bool
lies_inside prefix n address = nat_le n prefix.length && shares_first n prefix.address address

-- a longer row than the one that was found lies inside the address's prefix of n bits
abbrev pub has_longer_inside : {V : Type 0} → List (Prefix × V) → (found : Option (Prefix × V))
    → (n : ℕ) → IpAddress → Bool
has_longer_inside {V} rows found n address =
    list_any (λ (row : Prefix × V). is_longer found row.0 && lies_inside row.0 n address) rows

-- the first length from n on, of so many more, inside which no longer row lies
abbrev pub first_apart : {V : Type 0} → (more : ℕ) → List (Prefix × V)
    → (found : Option (Prefix × V)) → (n : ℕ) → IpAddress → ℕ
first_apart zero rows found n address = n
first_apart (suc more) rows found n address =
    if has_longer_inside rows found n address then first_apart more rows found (n + 1) address
    else n

abbrev pub scope_from : {V : Type 0} → List (Prefix × V) → (found : Option (Prefix × V))
    → IpAddress → ℕ
scope_from rows found address =
    first_apart (129 - length_of found) rows found (length_of found) address

-- The scope: the least length, not below that of the row that was found (0 where none was), such
-- that no longer row lies inside the address's prefix of that length. An address has 128 bits at
-- most.
unfoldable pub scope_in : {V : Type 0} → List (Prefix × V) → IpAddress → ℕ
scope_in rows address = scope_from rows (found_in rows address) address
