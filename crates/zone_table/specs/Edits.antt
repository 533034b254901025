-- Edits of a table of zones.
use Rattle.std.specs.Prelude.{◌≡◌, ◌≢◌, ◌≤◌, ◌<◌, ◌↔◌, ℕ, List, [], length, map, slice_get, Some, ⊤}
use Rattle.std.specs.List.{AllByRecursion}
use Rattle.zone_list.specs.RecordSetRecord.{RecordSet}
use Rattle.zone_list.specs.Octets.{set_octets}
use Rattle.cidr_routing.specs.Stored.{Stored}
use Rattle.zone_list.specs.Steps.{cells_in_all}
use Rattle.zone_list.specs.Changes.{CanBeAdded, CanChange, Changes, ref_in}
use Rattle.zone_list.specs.Zones.{Zone, IsOne, IsZoneId, HasName, placed_in}
use Rattle.zone_table.specs.declared.edits.ZoneEdit.{ZoneEdit}
use Rattle.zone_table.specs.declared.edits.ZoneEdit.TheVariants as edit
use Rattle.zone_table.specs.declared.refs.Delta.{Delta}
use Rattle.zone_finding.specs.Looking.{IsApex}
use Rattle.zone_table.specs.Tables.{Table}

-- the zone that an edit is about
abbrev pub zone_of : ZoneEdit → ℕ
zone_of (edit.Begin zone name sets) = zone
zone_of (edit.End zone) = zone
zone_of (edit.Change zone remove add) = zone
-- of none, which has number 0
zone_of (edit.Collections now) = 0

-- ---- which edits are allowed

-- when an edit is allowed
abbrev pub IsAllowed : List Zone → ZoneEdit → Type 0
-- no zone has the number or the name, and the number is not 0, which is of no zone
IsAllowed zones (edit.Begin zone name sets) =
    (IsZoneId zones zone → ⊥) × (HasName zones name → ⊥) × CanBeAdded name sets × (0 < zone)
IsAllowed zones (edit.End zone) = IsZoneId zones zone
IsAllowed zones (edit.Change zone remove add) =
    IsZoneId zones zone
    × ((apex : List (List ℕ)) → IsApex zones zone apex
    → CanChange apex (placed_in zones zone) remove add)
IsAllowed zones (edit.Collections now) = ⊤

-- ---- what an edit makes

-- What an edit makes of the zone that it is about, and which references it tells.
abbrev pub Makes : ZoneEdit → (before after : List Zone) → Delta → Type 0
Makes (edit.Begin zone name sets) before after delta =
    IsApex after zone name
    × Changes zone [] [] sets delta.removed delta.added (placed_in after zone)
-- all its sets go, in zone order
Makes (edit.End zone) before after delta =
    (IsZoneId after zone → ⊥) × (delta.removed ≡ map (ref_in zone) (placed_in before zone))
    × (delta.added ≡ [])
Makes (edit.Change zone remove add) before after delta =
    ((apex : List (List ℕ)) → IsApex before zone apex → IsApex after zone apex)
    × Changes zone (placed_in before zone) remove add delta.removed delta.added
    (placed_in after zone)
-- no zone changes
Makes (edit.Collections now) before after delta = (after ≡ before) × (delta.removed ≡ [])
    × (delta.added ≡ [])

-- the collections after an edit
abbrev pub collections_after : ZoneEdit → (before : Stored) → Stored
collections_after (edit.Begin zone name sets) before = before
collections_after (edit.End zone) before = before
collections_after (edit.Change zone remove add) before = before
collections_after (edit.Collections now) before = now

-- An edit changes one zone, and no other.
pub record Edits (before : List Zone) (made : ZoneEdit) (after : List Zone)
    (delta : Delta) : Type 0 where
  pub zone : delta.zone ≡ zone_of made
  pub others : (other : Zone) → other.id ≢ zone_of made → IsOne before other ↔ IsOne after other
  pub its : Makes made before after delta

-- ---- what an edit wants of an earlier call

-- What is ready: an edit, the number of the edits before it, how many references can be told as
-- removed and as added without memory, how many sets a zone that is opened can take, and how many
-- octets of a set can be written.
pub record Prepared : Type 0 where
  pub made : ZoneEdit
  pub edits : ℕ
  pub removable : ℕ
  pub addable : ℕ
  pub places : ℕ
  pub buffer : ℕ

-- the zone has room for so many more sets
abbrev pub HasRoomIn : Table → (zone : ℕ) → ℕ → Type 0
HasRoomIn table zone n =
    (i : ℕ) (its : Zone) (room : ℕ) → slice_get table.zones i ≡ Some its
    → slice_get table.rooms i ≡ Some room → its.id ≡ zone → n ≤ room

-- putting these sets wants no memory of the store and of what is ready
pub record HasRoomFor (table : Table) (ready : Prepared) (add : List RecordSet) : Type 0 where
  pub addable : length add ≤ ready.addable
  pub slots : length add ≤ table.free
  pub cells : cells_in_all add ≤ table.cells
  pub buffer : AllByRecursion (λ set. length (set_octets set) ≤ ready.buffer) add

-- nothing of the edit wants memory
abbrev pub HasRoom : Table → Prepared → ZoneEdit → Type 0
HasRoom table ready (edit.Begin zone name sets) =
    (0 < table.spare) × (length sets ≤ ready.places) × HasRoomFor table ready sets
HasRoom table ready (edit.End zone) = length (placed_in table.zones zone) ≤ ready.removable
HasRoom table ready (edit.Change zone remove add) =
    (length remove ≤ ready.removable) × HasRoomIn table zone (length add)
    × HasRoomFor table ready add
HasRoom table ready (edit.Collections now) = ⊤

-- An edit that is ready: nothing was edited since it was prepared, it is allowed, and nothing of it
-- wants memory.
pub record IsReady (table : Table) (ready : Prepared) : Type 0 where
  pub edits : ready.edits ≡ table.edits
  pub allowed : IsAllowed table.zones ready.made
  pub room : HasRoom table ready ready.made

-- each edit that was ready still is
abbrev pub StayReady : (before after : Table) → Type 0
StayReady before after = (ready : Prepared) → IsReady before ready → IsReady after ready
