-- Which sets of zones name which health checks, by the slots of these.
use Rattle.std.specs.Prelude.{◌≡◌, ◌≢◌, ◌≤◌, ◌⊎◌, ◌↔◌, ℕ, List, Option, None, Some, Bool, IsTrue, slice_get, ⊤}
use Rattle.config_zones.specs.Looking.{RefersTo}
use Rattle.config_zones.specs.SetRefRecord.{SetRef}
use Rattle.config_zones.specs.Zones.{Zone}
use Rattle.record_set.specs.declared.sets.RecordSet.{RecordSet}
use Rattle.zone_model.specs.Slotted.{Slotted}
use Rattle.check_commands.specs.Counts.{IsTold, told_at}

-- the set in a slot of some zone names the check
abbrev pub IsNamedAt : List Zone → (slot check : ℕ) → Type 0
IsNamedAt zones slot check = (zone : ℕ) × (named : RecordSet)
    × RefersTo zones (record { zone = zone; slot = slot }) named × (named.check ≡ Some check)

-- By the slot of each set the number of the check that it names. No slot stands in two zones.
pub record AreUses (list : List ℕ) (zones : List Zone) : Type 0 where
  -- where the set of a reference names a check, this one is told at its slot
  pub each : (ref : SetRef) (named : RecordSet) (check : ℕ) → RefersTo zones ref named
      → named.check ≡ Some check → told_at list ref.slot ≡ check
  -- and a check that is told at a slot is named by the set that stands there
  pub only : (slot check : ℕ) → told_at list slot ≡ check → check ≢ 0
      → IsNamedAt zones slot check

-- They are known, if any are.
abbrev pub KnowsUses : Option (List ℕ) → List Zone → Type 0
KnowsUses None zones = ⊤
KnowsUses (Some list) zones = AreUses list zones

-- Whether a check is told, where they are known and it isn't number 0, which is of none.
abbrev pub TellsUse : Option (List ℕ) → (check : ℕ) → Option Bool → Type 0
TellsUse known check (Some used) = (list : List ℕ) × (known ≡ Some list) × (check ≢ 0)
    × (IsTrue used ↔ IsTold list check)
TellsUse known check None = (known ≡ None) ⊎ (check ≡ 0)

-- ---- sets that are looked at

abbrev pub slot_of : SetRef → ℕ
slot_of ref = ref.slot

abbrev pub slot_in : Slotted → ℕ
slot_in placed = placed.slot

-- The number of the check that the set names which a reference names; 0 where it names no set, or
-- one without a check.
pub record TellsCheck (zones : List Zone) (ref : SetRef) (told : ℕ) : Type 0 where
  pub its : (named : RecordSet) (check : ℕ) → RefersTo zones ref named
      → named.check ≡ Some check → told ≡ check
  pub only : told ≢ 0 → (named : RecordSet) × RefersTo zones ref named
      × (named.check ≡ Some told)

abbrev pub IsOneOf : List ℕ → (slot : ℕ) → Type 0
IsOneOf slots slot = (i : ℕ) × (slice_get slots i ≡ Some slot)

-- At each of these slots it is told what the set of the zone names that stands there now, and at no
-- other slot another number.
abbrev pub LooksAt : List Zone → (zone : ℕ) → (slots before after : List ℕ) → Type 0
LooksAt zones zone slots before after = (slot : ℕ)
    → (IsOneOf slots slot
    × TellsCheck zones (record { zone = zone; slot = slot }) (told_at after slot))
    ⊎ ((IsOneOf slots slot → ⊥) × (told_at after slot ≡ told_at before slot))

-- the same of the zones up to a number, and of no others
pub record AreUsesTo (last : ℕ) (list : List ℕ) (zones : List Zone) : Type 0 where
  pub each : (ref : SetRef) (named : RecordSet) (check : ℕ) → ref.zone ≤ last
      → RefersTo zones ref named → named.check ≡ Some check → told_at list ref.slot ≡ check
  pub only : (slot check : ℕ) → told_at list slot ≡ check → check ≢ 0
      → IsNamedAt zones slot check
