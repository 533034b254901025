-- What the definitions of changes come to.
use Rattle.std.specs.Prelude.{◌≡◌, ℕ, ◌⊎◌, ◌↔◌, List, [], length, Contains, Ok, true, false}
use Rattle.std.specs.List.{AllByRecursion}
use Rattle.cidr_blocks.specs.Texts.{IsLocationName}
use Rattle.cidr_changes.specs.declared.changes.CidrChange.{CidrChange}
use Rattle.cidr_blocks.specs.declared.places.Collection.{Collection}
use Rattle.cidr_blocks.specs.declared.places.CidrLocation.{CidrLocation}
use Rattle.cidr_blocks.specs.Idents.{star}
use Rattle.cidr_blocks.specs.Listing.{SameMembers}
use Rattle.cidr_blocks.specs.Places.{IsCollection, names_of, rows_of}
use Rattle.cidr_changes.specs.Changed.{changed_collection, with_locations}
use Rattle.cidr_changes.specs.Changes.{BlocksRise, Rows, changed, has_block_in_use}
use Rattle.cidr_changes.specs.Gathered.{locations_of}
use Rattle.cidr_blocks.specs.Prefixes.{IsPrefix, Prefix}

-- A change names a location of 1 to 16 letters, digits, `_` and `-`, and prefixes.
pub record HasName (change : CidrChange) : Type 0 where
  pub name : IsLocationName change.location
  pub prefixes : AllByRecursion (λ (block : Prefix). IsPrefix block.address block.length) change.blocks

abbrev pub HaveNames : List CidrChange → Type 0
HaveNames changes = AllByRecursion HasName changes

-- What changes make of a collection is one.
abbrev pub KeepCollections : Type 0
KeepCollections =
    (collection : Collection) (changes : List CidrChange) (id : ℕ) (used : List (ℕ × List ℕ))
    (after : Collection) → IsCollection collection → HaveNames changes
    → changed_collection collection changes id used ≡ Ok after → IsCollection after

-- What a set names in a collection is `*`, or one of its locations.
abbrev pub IsStarOrLocation : List CidrLocation → (name : List ℕ) → Type 0
IsStarOrLocation locations name = (name ≡ star) ⊎ Contains (names_of locations) name

-- Changes that are carried out leave a location for each set.
abbrev pub KeepPlaced : Type 0
KeepPlaced =
    (collection : Collection) (changes : List CidrChange) (id : ℕ) (used : List (ℕ × List ℕ))
    (after : Collection) → changed_collection collection changes id used ≡ Ok after
    → (name : List ℕ) → Contains used (id, name) → IsStarOrLocation after.locations name

-- It counts what sets name, and neither the order of the sets nor how many name the same.
abbrev pub OnlyNamedCount : Type 0
OnlyNamedCount =
    (collection : Collection) (changes : List CidrChange) (id : ℕ) (used other : List (ℕ × List ℕ))
    → SameMembers used other
    → changed_collection collection changes id used ≡ changed_collection collection changes id other

-- Locations of blocks hold these blocks, each under its own name, and no others.
abbrev pub GatherAll : Type 0
GatherAll = (rows : Rows) (row : Prefix × List ℕ)
    → Contains (rows_of (locations_of rows)) row ↔ Contains rows row

-- None of them is lost or told twice.
abbrev pub GatherOnce : Type 0
GatherOnce = (rows : Rows) → length (rows_of (locations_of rows)) ≡ length rows

-- A put that isn't refused adds its blocks under its name, and changes nothing else.
abbrev pub PutsAll : Type 0
PutsAll = (change : CidrChange) (rows : Rows) (row : Prefix × List ℕ)
    → change.put ≡ true → BlocksRise rows → has_block_in_use change rows ≡ false
    → Contains (changed change rows) row
    ↔ (Contains rows row ⊎ ((row.1 ≡ change.location) × Contains change.blocks row.0))

-- A removal takes its blocks from under its name, and changes nothing else.
abbrev pub RemovesAll : Type 0
RemovesAll = (change : CidrChange) (rows : Rows) (row : Prefix × List ℕ)
    → change.put ≡ false → BlocksRise rows
    → Contains (changed change rows) row
    ↔ (Contains rows row × (row.1 ≡ change.location → Contains change.blocks row.0 → ⊥))

-- Changes begin with the blocks of the collection, each under its own name.
abbrev pub BeginsWithAll : Type 0
BeginsWithAll = (collection : Collection) (row : Prefix × List ℕ) → IsCollection collection
    → Contains (with_locations collection.locations []) row
    ↔ Contains (rows_of collection.locations) row

-- They begin with them in their order, and each change keeps it.
pub record StaysInOrder : Type 0 where
  pub begins : (collection : Collection) → BlocksRise (with_locations collection.locations [])
  pub keeps : (change : CidrChange) (rows : Rows) → BlocksRise rows → BlocksRise (changed change rows)
