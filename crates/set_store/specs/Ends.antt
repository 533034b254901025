-- The tags of slots in a list.
use Rattle.std.specs.Prelude.{◌≡◌, ◌≢◌, ◌<◌, ℕ, List, Some, length, slice_get}
use Rattle.set_store.specs.Packed.{Slot}

-- Each of the list is the number of a slot.
abbrev pub AreSlots : List Slot → (order : List ℕ) → Type 0
AreSlots slots order = (k at : ℕ) → slice_get order k ≡ Some at → at < length slots

-- The slot at a place of the list, if there is one, has another tag than this.
abbrev pub IsOtherAt : List Slot → (order : List ℕ) → (tag place : ℕ) → Type 0
IsOtherAt slots order tag place =
    (at : ℕ) (slot : Slot) → slice_get order place ≡ Some at → slice_get slots at ≡ Some slot
    → slot.tag ≢ tag
