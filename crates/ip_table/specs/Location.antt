-- Where an address is located: its row, and the scope of that answer (RFC 7871, 7.2.1).
use Rattle.std.specs.Prelude.{◌≡◌, ℕ, ◌<◌, ◌≤◌, List, Option, Some, None, Contains, ⊤}
use Rattle.std.specs.Option.{option_map}
use Rattle.address_text.specs.declared.address.IpAddress.{IpAddress}
use Rattle.ip_table.specs.Prefixes.{Prefix, Covers, LiesInside}

-- It is the longest of all rows that contain the address; none where no row does.
abbrev pub IsFound : {V : Type 0} → List (Prefix × V) → IpAddress → Option (Prefix × V) → Type 0
IsFound {V} rows address None = (row : Prefix × V) → Contains rows row → ¬ Covers row.0 address
IsFound {V} rows address (Some found) =
    Contains rows found × Covers found.0 address
    × ((row : Prefix × V) → Contains rows row → Covers row.0 address
    → row.0.length ≤ found.0.length)

-- the length of the row that was found, 0 where none was
abbrev pub length_of : {V : Type 0} → Option (Prefix × V) → ℕ
length_of None = 0
length_of (Some found) = found.0.length

-- A row is longer than the one that was found. Any row is, where none was.
abbrev pub IsLonger : {V : Type 0} → Option (Prefix × V) → Prefix → Type 0
IsLonger None prefix = ⊤
IsLonger (Some found) prefix = found.0.length < prefix.length

-- Some longer row than the one that was found lies inside the address's prefix of n bits.
abbrev pub HasLongerInside : {V : Type 0} → List (Prefix × V) → Option (Prefix × V) → (n : ℕ)
    → IpAddress → Type 0
HasLongerInside {V} rows found n address =
    (row : Prefix × V) × Contains rows row × IsLonger found row.0 × LiesInside row.0 n address

-- It is the least length, not below that of the row that was found, such that no longer row lies
-- inside the address's prefix of that length.
pub record IsScope {V : Type 0} (rows : List (Prefix × V)) (address : IpAddress)
    (found : Option (Prefix × V)) (scope : ℕ) : Type 0 where
  pub from : length_of found ≤ scope
  pub apart : ¬ HasLongerInside rows found scope address
  pub least : (n : ℕ) → length_of found ≤ n → ¬ HasLongerInside rows found n address → scope ≤ n

-- the answer for an address: the value of the row that is found, and the scope
pub record Locates {V : Type 0} (rows : List (Prefix × V)) (address : IpAddress) (value : Option V)
    (scope : ℕ) : Type 0 where
  pub found : Option (Prefix × V)
  pub is_found : IsFound rows address found
  pub has_value : value ≡ option_map (λ (row : Prefix × V). row.1) found
  pub is_scope : IsScope rows address found scope
