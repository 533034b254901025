-- A collection after a list of changes, or their first refusal (Route 53 API Reference,
-- ChangeCidrCollection). A record set uses a location by the number of its collection and the name.
use Rattle.std.specs.Prelude.{ℕ, Bool, not, ◌&&◌, nat_lt, nat_eq, List, [], ◌∷◌, length, map, Option, None, Some, option_map, Result, Ok, Err}
use Rattle.std.specs.List.{filter, list_any}
use Rattle.std.specs.Ordering.{match_ordering}
use Rattle.std.specs.Str.{bytes_eq}
use Rattle.cidr_changes.specs.declared.changes.CidrChange.{CidrChange}
use Rattle.cidr_changes.specs.declared.faults.CidrFault.{CidrFault}
use Rattle.cidr_changes.specs.declared.faults.CidrFault.TheVariants.{BlockLength, CidrBlockInUse, TooManyCidrBlocks, CidrLocationInUse}
use Rattle.cidr_blocks.specs.declared.places.CidrLocation.{CidrLocation}
use Rattle.cidr_blocks.specs.declared.places.Collection.{Collection}
use Rattle.cidr_changes.specs.Changes.{Rows, changed, has_bad_length, has_block_in_use, put_all}
use Rattle.cidr_changes.specs.Gathered.{locations_of}
use Rattle.cidr_blocks.specs.Idents.{star}
use Rattle.cidr_blocks.specs.Places.{name_cmp, names_of}
use Rattle.cidr_changes.specs.Refusals.{first_of, refuse_if, unless}

-- The first refusal of one change.
abbrev pub change_refusal : CidrChange → Rows → Option CidrFault
change_refusal change rows = first_of (
    refuse_if (has_bad_length change.blocks) BlockLength
    ∷ refuse_if (has_block_in_use change rows) CidrBlockInUse
    ∷ [])

-- The blocks after changes, each of what the ones before it leave; or the first refusal.
abbrev pub after_changes : List CidrChange → Rows → Result Rows CidrFault
after_changes [] rows = Ok rows
after_changes (change ∷ changes) rows =
    unless (change_refusal change rows) (after_changes changes (changed change rows))

-- the blocks of locations, in their order
abbrev pub with_locations : List CidrLocation → Rows → Rows
with_locations [] rows = rows
with_locations (location ∷ locations) rows =
    with_locations locations (put_all location.name location.blocks rows)

-- A set names a location of this collection, not `*`, that has no block.
abbrev pub is_unplaced : (id : ℕ) → List CidrLocation → ℕ × List ℕ → Bool
is_unplaced id locations used =
    nat_eq used.0 id && not (bytes_eq used.1 star)
    && not (list_any (bytes_eq used.1) (names_of locations))

-- the names of these locations
abbrev pub unplaced : (id : ℕ) → List CidrLocation → (used : List (ℕ × List ℕ)) → List (List ℕ)
unplaced id locations used =
    map (λ (named : ℕ × List ℕ). named.1) (filter (is_unplaced id locations) used)

-- the lesser of two names, by bytes
abbrev pub lesser : List ℕ → Option (List ℕ) → List ℕ
lesser name None = name
lesser name (Some other) = match_ordering (name_cmp name other) name name other

-- the least of several
abbrev pub least : List (List ℕ) → Option (List ℕ)
least [] = None
least (name ∷ names) = Some (lesser name (least names))

-- The first refusal after the last change: more than 1,000 blocks, or a location in use without a
-- block; of several the least is told.
abbrev pub last_refusal : (id : ℕ) → (used : List (ℕ × List ℕ)) → Rows → Option CidrFault
last_refusal id used rows = first_of (
    refuse_if (nat_lt 1000 (length rows)) TooManyCidrBlocks
    ∷ option_map CidrLocationInUse (least (unplaced id (locations_of rows) used))
    ∷ [])

-- a collection with these blocks, unless that is refused
abbrev pub finished : Collection → (id : ℕ) → (used : List (ℕ × List ℕ)) → Result Rows CidrFault
    → Result Collection CidrFault
finished collection id used (Err fault) = Err fault
finished collection id used (Ok rows) =
    unless (last_refusal id used rows) (Ok (record collection { locations = locations_of rows }))

-- The collection after the changes.
abbrev pub changed_collection : Collection → List CidrChange → (id : ℕ)
    → (used : List (ℕ × List ℕ)) → Result Collection CidrFault
changed_collection collection changes id used =
    finished collection id used (after_changes changes (with_locations collection.locations []))
