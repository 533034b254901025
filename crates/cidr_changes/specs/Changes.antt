-- What the changes of a collection come to, and their first refusal (Route 53 API Reference,
-- ChangeCidrCollection).
use Rattle.std.specs.Prelude.{◌≡◌, ⊤, ℕ, Bool, false, not, ◌&&◌, if◌then◌else◌, List, [], ◌∷◌, Option, None, Some, is_some}
use Rattle.std.specs.BTreeMap.{insert_entry, is_at}
use Rattle.std.specs.List.{AllByRecursion, list_any}
use Rattle.std.specs.Map.{lookup, remove_entry}
use Rattle.std.specs.declared.cmp.Ordering.TheVariants.{Less}
use Rattle.std.specs.Str.{bytes_eq}
use Rattle.cidr_blocks.specs.Prefixes.{Prefix}
use Rattle.cidr_changes.specs.declared.changes.CidrChange.{CidrChange}
use Rattle.cidr_blocks.specs.Places.{block_cmp, is_block}

-- The blocks of a collection in their order, each with the name of its location.
abbrev pub Rows : Type 0
Rows = List (Prefix × List ℕ)

-- Each block is below those behind it, so none stands twice.
abbrev pub BlocksRise : Rows → Type 0
BlocksRise [] = ⊤
BlocksRise (row ∷ rows) =
    AllByRecursion (λ other. block_cmp row.0 other.0 ≡ Less) rows × BlocksRise rows

-- the location under which a block stands
abbrev pub location_of : Rows → Prefix → Option (List ℕ)
location_of rows block = lookup (is_at (block_cmp block)) rows

-- whether that is the location of this name
abbrev pub is_named : (name : List ℕ) → Option (List ℕ) → Bool
is_named name None = false
is_named name (Some other) = bytes_eq other name

-- whether it is another one
abbrev pub is_other : (name : List ℕ) → Option (List ℕ) → Bool
is_other name None = false
is_other name (Some other) = not (bytes_eq other name)

-- whether a block stands under a location
abbrev pub stands_at : (name : List ℕ) → Rows → Prefix → Bool
stands_at name rows block = is_named name (location_of rows block)

-- whether a block stands under another location
abbrev pub is_elsewhere : (name : List ℕ) → Rows → Prefix → Bool
is_elsewhere name rows block = is_other name (location_of rows block)

-- A block is put under a location. Where it stands already, nothing changes.
abbrev pub put : (name : List ℕ) → Prefix → Rows → Rows
put name block rows =
    if is_some (location_of rows block) then rows else insert_entry block_cmp rows block name

-- A block is taken from a location. Where it doesn't stand there, nothing changes.
abbrev pub removed : (name : List ℕ) → Prefix → Rows → Rows
removed name block rows =
    if stands_at name rows block then remove_entry (is_at (block_cmp block)) rows else rows

-- one block after another
abbrev pub put_all : (name : List ℕ) → List Prefix → Rows → Rows
put_all name [] rows = rows
put_all name (block ∷ blocks) rows = put_all name blocks (put name block rows)

abbrev pub removed_all : (name : List ℕ) → List Prefix → Rows → Rows
removed_all name [] rows = rows
removed_all name (block ∷ blocks) rows = removed_all name blocks (removed name block rows)

-- the blocks after a change
abbrev pub changed : CidrChange → Rows → Rows
changed change rows =
    if change.put then put_all change.location change.blocks rows
    else removed_all change.location change.blocks rows

-- A prefix hasn't the length of a block.
abbrev pub has_bad_length : List Prefix → Bool
has_bad_length blocks = list_any (λ block. not (is_block block)) blocks

-- A block that is put stands under another location.
abbrev pub has_block_in_use : CidrChange → Rows → Bool
has_block_in_use change rows =
    change.put && list_any (is_elsewhere change.location rows) change.blocks
