-- What an edit wants of memory.
use Rattle.std.specs.Prelude.{◌≡◌, ◌≤◌, ◌<◌, ◌-◌, ℕ, List, length, map, slice_get, Option, Some}
use Rattle.std.specs.Prelude.{Vec, vec_capacity, ⊤}
use Rattle.std.specs.List.{AllByRecursion}
use Rattle.std.specs.declared.alloc.Global.{Global}
use Rattle.zone_list.specs.RecordSetRecord.{RecordSet}
use Rattle.zone_list.specs.Octets.{HasSpelling, set_octets}
use Rattle.zone_list.specs.Stored.{Kept, Slots}
use Rattle.zone_list.specs.SumsRecord.{Sums}
use Rattle.zone_list.specs.Kept.{Listed, zones_in}
use Rattle.zone_list.specs.Steps.{cells_in_all}
use Rattle.zone_list.specs.Zones.{placed_in}
use Rattle.zone_table.specs.declared.edits.ZoneEdit.{ZoneEdit}
use Rattle.zone_table.specs.declared.edits.ZoneEdit.TheVariants as edit
use Rattle.zone_table.specs.declared.needs.Need.{Need}
use Rattle.zone_table.specs.Edits.{IsAllowed, IsReady, Prepared}
use Rattle.zone_table.specs.Tables.{Table}

-- A zone, but for how many more sets it can take.
pub record ZoneButRoom : Type 0 where
  pub id : ℕ
  pub apex : List (List ℕ)
  pub order : List ℕ
  pub sums : Sums

abbrev pub zone_but_room : Listed → ZoneButRoom
zone_but_room listed = record { id = listed.id; apex = listed.apex; order = listed.order; sums = listed.sums }

-- the zones are the same, but for how many more sets they can take
abbrev pub same_rows : (before after : List Listed) → Type 0
same_rows before after = map zone_but_room after ≡ map zone_but_room before

-- the sets that an edit puts have spellings
abbrev pub AreSpelled : ZoneEdit → Type 0
AreSpelled (edit.Begin zone name sets) = AllByRecursion HasSpelling sets
AreSpelled (edit.End zone) = ⊤
AreSpelled (edit.Change zone remove add) = AllByRecursion HasSpelling add
AreSpelled (edit.Collections now) = ⊤

-- What it takes to put these sets.
pub record NeedsFor (add : List RecordSet) (need : Need) : Type 0 where
  pub addable : need.addable ≡ length add
  pub cells : need.cells ≡ cells_in_all add
  pub buffer : AllByRecursion (λ set. length (set_octets set) ≤ need.buffer) add

-- how much an edit wants
abbrev pub NeedsOfEdit : List Listed → ZoneEdit → Need → Type 0
NeedsOfEdit list (edit.Begin zone name sets) need = (need.places ≡ length sets) × NeedsFor sets need
NeedsOfEdit list (edit.End zone) need =
    (slots : List (Option Kept)) → need.removable ≡ length (placed_in (zones_in slots list) zone)
NeedsOfEdit list (edit.Change zone remove add) need = (need.removable ≡ length remove) × NeedsFor add need
NeedsOfEdit list (edit.Collections now) need = ⊤

-- the zone can take so many sets
abbrev pub CanTake : List Listed → (zone : ℕ) → ℕ → Type 0
CanTake list zone n = (i : ℕ) (its : Listed) → slice_get list i ≡ Some its → its.id ≡ zone
    → n ≤ its.room

-- the zones have room for an edit
abbrev pub IsRoomFor : Vec Listed Global → ZoneEdit → Type 0
IsRoomFor list (edit.Begin zone name sets) = length list.items < vec_capacity list
IsRoomFor list (edit.End zone) = ⊤
IsRoomFor list (edit.Change zone remove add) = CanTake list.items zone (length add)
IsRoomFor list (edit.Collections now) = ⊤

-- there is no less room, for zones and in each zone
pub record KeepsRoom (before after : Vec Listed Global) : Type 0 where
  pub spare : vec_capacity before - length before.items ≤ vec_capacity after - length after.items
  pub rooms : (i : ℕ) (its its_now : Listed) → slice_get before.items i ≡ Some its
      → slice_get after.items i ≡ Some its_now → its.room ≤ its_now.room

-- the store and what is ready have room for these sets
pub record HasRoomToAdd (store : Slots) (ready : Prepared) (add : List RecordSet) : Type 0 where
  pub addable : length add ≤ ready.addable
  pub slots : length add ≤ store.free
  pub cells : cells_in_all add ≤ store.cells
  pub buffer : AllByRecursion (λ set. length (set_octets set) ≤ ready.buffer) add

-- nothing of a ready edit wants memory
abbrev pub NeedsNone : Slots → Vec Listed Global → Prepared → ZoneEdit → Type 0
NeedsNone store list ready (edit.Begin zone name sets) =
    (length list.items < vec_capacity list) × (length sets ≤ ready.places)
    × HasRoomToAdd store ready sets
NeedsNone store list ready (edit.End zone) =
    length (placed_in (zones_in store.slots list.items) zone) ≤ ready.removable
NeedsNone store list ready (edit.Change zone remove add) =
    (length remove ≤ ready.removable) × CanTake list.items zone (length add)
    × HasRoomToAdd store ready add
NeedsNone store list ready (edit.Collections now) = ⊤

-- the edit is allowed, and nothing of it wants memory
pub record IsReadyFor (store : Slots) (list : Vec Listed Global) (ready : Prepared) : Type 0 where
  pub allowed : IsAllowed (zones_in store.slots list.items) ready.made
  pub room : NeedsNone store list ready ready.made

-- what is made ready
pub record IsPrepared (made : ZoneEdit) (edits : ℕ) (need : Need) (ready : Prepared) : Type 0 where
  pub made_it : ready.made ≡ made
  pub edits_before : ready.edits ≡ edits
  pub removable : need.removable ≤ ready.removable
  pub addable : need.addable ≤ ready.addable
  pub places : need.places ≤ ready.places
  pub buffer : need.buffer ≤ ready.buffer

-- What has so much memory beside is ready.
abbrev pub Prepares : Table → ZoneEdit → Need → Type 0
Prepares table made need = (ready : Prepared) → IsPrepared made table.edits need ready → IsReady table ready
