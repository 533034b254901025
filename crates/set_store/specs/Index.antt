-- How the sets of a store are kept: slots with the handles of octets, and the free ones in a chain.
use Rattle.std.specs.Prelude.{◌≡◌, ◌≢◌, ◌<◌, ◌^◌, ℕ, zero, suc, ◌+◌, List, [], ◌∷◌, false, Option}
use Rattle.std.specs.Prelude.{None, Some, Result, Ok, Err, ◌==◌, if◌then◌else◌, length, slice_get}
use Rattle.std.specs.Prelude.{unwrap_or}
use Rattle.std.specs.FinMap as finmap
use Rattle.set_scratch.specs.Stored.{Held}
use Rattle.set_search.specs.RTypeRecord.TheVariants as rtype
use Rattle.set_search.specs.RoutingRecord.TheVariants as routing
use Rattle.set_search.specs.RecordSetRecord.{RecordSet}
use Rattle.set_search.specs.BodyRecord.TheVariants as body
use Rattle.set_scratch.specs.Reading.{read}
use Rattle.set_store.specs.Packed.{Slot}
use Rattle.set_store.specs.Stored.{Kept, IsSpelling}
use Rattle.set_store.specs.Tags.{IsTagged}

-- the cell of a slot that is free
abbrev pub no_cell : ℕ
no_cell = 134217727

-- what stands for the set of octets that are none's
abbrev pub no_set : RecordSet
no_set = record {
  name = [];
  rtype = rtype.A;
  routing = routing.Simple;
  body = body.Alias [] false;
  check =
      None;
}

abbrev pub set_read : Result (RecordSet × ℕ) ℕ → RecordSet
set_read (Ok x) = x.0
set_read (Err place) = no_set

-- the set of these octets
unfoldable pub set_of : List ℕ → RecordSet
set_of octets = set_read (read octets)

abbrev pub octets_in : Held → (cell : ℕ) → List ℕ
octets_in held cell = unwrap_or (finmap.get held cell) []

-- what is kept in a slot
abbrev pub kept_in : Held → Slot → Option Kept
kept_in held slot =
    if slot.cell == no_cell then None else Some (record {
      zone = slot.zone;
      set = set_of
          (octets_in held slot.cell);
    })

-- a slot that is free, in front of another one
abbrev pub new_slot : ℕ → Slot
new_slot next = record { cell = no_cell; tag = 31; zone = next }

abbrev pub IsLive : Slot → Type 0
IsLive slot = slot.cell ≢ no_cell

-- So many slots are free, one behind another. Each has a rank of its own, which falls along the
-- chain.
abbrev pub IsChain : List Slot → (rank : ℕ → ℕ) → (n at : ℕ) → Type 0
IsChain slots rank zero at = Unit {0}
IsChain slots rank (suc n) at =
    (slot : Slot) × (slice_get slots at ≡ Some slot) × (slot.cell ≡ no_cell) × (rank at ≡ n)
    × IsChain slots rank n slot.zone

-- how many slots are in use
abbrev pub used_by : Slot → ℕ
used_by slot = if slot.cell == no_cell then 0 else 1

abbrev pub used : List Slot → ℕ
used [] = 0
used (slot ∷ slots) = used_by slot + used slots

-- Each slot in use has a handle of its own, whose octets are those of a set, and the tag of that
-- set's name; and so many free slots are in a chain.
pub record IsIntact (held : Held) (slots : List Slot) (free spare : ℕ) : Type 0 where
  pub live : (i : ℕ) (slot : Slot) → slice_get slots i ≡ Some slot → IsLive slot
      → (octets : List ℕ) × (finmap.get held slot.cell ≡ Some octets) × IsSpelling octets
      × IsTagged slot.tag octets
  pub apart : (i j : ℕ) (slot other : Slot) → slice_get slots i ≡ Some slot
      → slice_get slots j ≡ Some other
      → IsLive slot → slot.cell ≡ other.cell → i ≡ j
  pub rank : ℕ → ℕ
  pub chain : IsChain slots rank spare free
  pub counted : used slots + spare ≡ length slots
  pub few : length slots < 2 ^ 32

-- the octets of the slot's set, whose name has the slot's tag
abbrev pub HoldsAt : Held → List Slot → (i : ℕ) → (octets : List ℕ) → Type 0
HoldsAt held slots i octets =
    (slot : Slot) × (slice_get slots i ≡ Some slot) × IsLive slot
    × (finmap.get held slot.cell ≡ Some octets) × IsTagged slot.tag octets
