-- What collections of blocks are (Route 53 API Reference, CreateCidrCollection and
-- ChangeCidrCollection).
use Rattle.std.specs.Prelude.{◌≡◌, ◌≢◌, ℕ, ◌<◌, ◌≤◌, Bool, true, nat_le, ◌&&◌, List, [], ◌∷◌, ◌++◌, length, map, ⊤}
use Rattle.std.specs.Cmp.Lexicographic.{slice_cmp}
use Rattle.std.specs.List.{AllByRecursion}
use Rattle.std.specs.List.Sorted.{IsStrictlySortedBy}
use Rattle.std.specs.Ordering.{nat_cmp, on, then_cmp}
use Rattle.std.specs.declared.cmp.Ordering.{Ordering}
use Rattle.ip_table.specs.IpAddressRecord.{IpAddress}
use Rattle.ip_table.specs.IpAddressRecord.TheVariants.{V4, V6}
use Rattle.ip_table.specs.Bits.{width_of}
use Rattle.ip_table.specs.Prefixes.{IsPrefix, Prefix}
use Rattle.routing.specs.Texts.{IsLocationName}
use Rattle.cidr_blocks.specs.declared.places.CidrLocation.{CidrLocation}
use Rattle.cidr_blocks.specs.declared.places.Collection.{Collection}
use Rattle.cidr_blocks.specs.Idents.{IsCollectionName}

-- the most bits of a block
abbrev pub most_bits : IpAddress → ℕ
most_bits (V4 octets) = 24
most_bits (V6 octets) = 48

-- a prefix of 1 to 24 bits of IPv4, or of 1 to 48 bits of IPv6
abbrev pub is_block : Prefix → Bool
is_block prefix = nat_le 1 prefix.length && nat_le prefix.length (most_bits prefix.address)

-- the octets of an address
abbrev pub octets_of : IpAddress → List ℕ
octets_of (V4 octets) = octets
octets_of (V6 octets) = octets

-- the order of blocks: IPv4 first, then by the octets of the address, then by length
abbrev pub block_cmp : Prefix → Prefix → Ordering
block_cmp = then_cmp (on (λ p. width_of p.address) nat_cmp)
    (then_cmp (on (λ p. octets_of p.address) (slice_cmp nat_cmp)) (on (λ p. p.length) nat_cmp))

-- the order of names, by bytes
abbrev pub name_cmp : List ℕ → List ℕ → Ordering
name_cmp = slice_cmp nat_cmp

-- blocks with the name of the location under which they stand
abbrev pub rows_at : (name : List ℕ) → List Prefix → List (Prefix × List ℕ)
rows_at name blocks = map (λ block. (block, name)) blocks

-- the blocks of locations, each with the name of its location
abbrev pub rows_of : List CidrLocation → List (Prefix × List ℕ)
rows_of [] = []
rows_of (location ∷ locations) = rows_at location.name location.blocks ++ rows_of locations

-- No block stands twice.
abbrev pub StandOnce : List (Prefix × List ℕ) → Type 0
StandOnce [] = ⊤
StandOnce (row ∷ rows) = AllByRecursion (λ other. other.0 ≢ row.0) rows × StandOnce rows

-- the names of locations
abbrev pub names_of : List CidrLocation → List (List ℕ)
names_of locations = map (λ (location : CidrLocation). location.name) locations

-- a prefix of the length of a block
pub record IsBlock (prefix : Prefix) : Type 0 where
  pub prefix_is : IsPrefix prefix.address prefix.length
  pub fits : is_block prefix ≡ true

-- A location has a name of 1 to 16 letters, digits, `_` and `-`, and a block; its blocks are blocks,
-- and rise.
pub record IsCidrLocation (location : CidrLocation) : Type 0 where
  pub name : IsLocationName location.name
  pub some : 0 < length location.blocks
  pub are_blocks : AllByRecursion IsBlock location.blocks
  pub rising : IsStrictlySortedBy block_cmp location.blocks

-- A collection has a name of 1 to 64 letters, digits, `_` and `-`, and locations whose names rise;
-- no block stands under two of them, and at most 1,000 blocks stand there.
pub record IsCollection (collection : Collection) : Type 0 where
  pub name : IsCollectionName collection.name
  pub each : AllByRecursion IsCidrLocation collection.locations
  pub rising : IsStrictlySortedBy name_cmp (names_of collection.locations)
  pub once : StandOnce (rows_of collection.locations)
  pub few : length (rows_of collection.locations) ≤ 1000
