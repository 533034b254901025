-- Blocks in their order, gathered by the names of their locations.
use Rattle.std.specs.Prelude.{◌≡◌, ℕ, ◌+◌, ◌≤◌, List, [], ◌∷◌, ◌++◌, length, take, drop, slice_get, Some}
use Rattle.std.specs.List.{insert}
use Rattle.std.specs.Ordering.{match_ordering}
use Rattle.cidr_blocks.specs.Prefixes.{Prefix}
use Rattle.cidr_changes.specs.declared.gathering.Spot.{Spot}
use Rattle.cidr_changes.specs.declared.gathering.Spot.TheVariants.{At, Before}
use Rattle.cidr_blocks.specs.declared.places.CidrLocation.{CidrLocation}
use Rattle.cidr_changes.specs.Changes.{Rows}
use Rattle.cidr_blocks.specs.Places.{name_cmp}

-- a location of one block
abbrev pub of_block : (name : List ℕ) → Prefix → CidrLocation
of_block name block = record { name = name; blocks = block ∷ [] }

-- a location with one more block, behind the others
abbrev pub grown : CidrLocation → Prefix → CidrLocation
grown location block = record location { blocks = location.blocks ++ block ∷ [] }

-- The locations, by name, with one more block.
abbrev pub with_row : (name : List ℕ) → Prefix → List CidrLocation → List CidrLocation
with_row name block [] = of_block name block ∷ []
with_row name block (location ∷ locations) =
    match_ordering (name_cmp name location.name)
    (of_block name block ∷ location ∷ locations)
    (grown location block ∷ locations)
    (location ∷ with_row name block locations)

-- one block after another
abbrev pub gathered : Rows → List CidrLocation → List CidrLocation
gathered [] locations = locations
gathered (row ∷ rows) locations = gathered rows (with_row row.1 row.0 locations)

-- The locations of blocks, by name; none without a block.
abbrev pub locations_of : Rows → List CidrLocation
locations_of rows = gathered rows []

-- where a location of this name stands, or before which place it would
abbrev pub IsSpot : List CidrLocation → (name : List ℕ) → Spot → Type 0
IsSpot locations name (At i) =
    (location : CidrLocation) × (slice_get locations i ≡ Some location)
    × ((block : Prefix) → with_row name block locations
    ≡ take i locations ++ grown location block ∷ drop (i + 1) locations)
IsSpot locations name (Before i) =
    (i ≤ length locations)
    × ((block : Prefix) → with_row name block locations
    ≡ insert locations i (of_block name block))
