-- A set that comes into a zone.
use Rattle.std.specs.Prelude.{◌≡◌, ◌⊎◌, ℕ, List, length, Some, slice_get, slice_set}
use Rattle.std.specs.List.{sum_by}
use Rattle.zone_order.specs.Cells.{cells_for}
use Rattle.zone_order.specs.RecordSetRecord.{RecordSet}
use Rattle.zone_order.specs.Sets.{key_of}
use Rattle.zone_order.specs.Octets.{set_octets}
use Rattle.zone_order.specs.Slotted.{Slotted, IsPut}

-- The set with its key gives way to a set, which stands in its slot. All others stay, each in its slot.
pub record IsReplaced (before : List Slotted) (given : Slotted) (after : List Slotted) : Type 0 where
  pub at : ℕ
  pub was : RecordSet
  pub there : slice_get before at ≡ Some (record { slot = given.slot; set = was })
  pub same_key : key_of was ≡ key_of given.set
  pub replaced : after ≡ slice_set before at given

-- A set comes: in place of the one with its key, or where there is none as one more.
abbrev pub Comes : (before : List Slotted) → (given : Slotted) → (after : List Slotted) → Type 0
Comes before given after = IsReplaced before given after ⊎ IsPut before given after

-- how many cells the octets of a set take
abbrev pub cells_in : Slotted → ℕ
cells_in placed = cells_for (length (set_octets placed.set))

-- how many cells the octets of the sets take
abbrev pub cells_of : List Slotted → ℕ
cells_of placed = sum_by cells_in placed
