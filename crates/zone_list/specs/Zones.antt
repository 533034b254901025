-- Zones, and lists of them.
use Rattle.std.specs.Prelude.{◌≡◌, ◌≢◌, ◌<◌, ◌==◌, ℕ, List, [], ◌∷◌, if◌then◌else◌, ⊤}
use Rattle.std.specs.List.{AllByRecursion}
use Rattle.zone_changes.specs.Suffix.{EndsWith}
use Rattle.zone_changes.specs.RecordSetRecord.{RecordSet}
use Rattle.zone_changes.specs.Octets.{HasSpelling}
use Rattle.zone_changes.specs.Hosted.{HostedZone}
use Rattle.zone_changes.specs.Zones.{IsAmong}
use Rattle.zone_changes.specs.Slotted.{Slotted, AreOfZone, sets_of}

-- A zone: its number, the name of its apex, and its sets in zone order, each with its slot.
pub record Zone : Type 0 where
  pub id : ℕ
  pub apex : List (List ℕ)
  pub placed : List Slotted

-- a zone without the slots of its sets
abbrev pub hosted : Zone → HostedZone
hosted zone = record { id = zone.id; apex = zone.apex; sets = sets_of zone.placed }

-- one of the zones
abbrev pub IsOne : List Zone → Zone → Type 0
IsOne zones zone = IsAmong zones zone

-- a zone has the number
abbrev pub IsZoneId : List Zone → ℕ → Type 0
IsZoneId zones id = (zone : Zone) × IsOne zones zone × (zone.id ≡ id)

-- a zone has the name
abbrev pub HasName : List Zone → (name : List (List ℕ)) → Type 0
HasName zones name = (zone : Zone) × IsOne zones zone × (zone.apex ≡ name)

-- the sets of the zone with this number; there are none where no zone has it
abbrev pub placed_in : List Zone → ℕ → List Slotted
placed_in [] id = []
placed_in (zone ∷ zones) id = if zone.id == id then zone.placed else placed_in zones id

-- A set can stand in a zone: it is at or below the apex, and has a spelling (which says that each
-- value is of its type).
pub record CanStand (apex : List (List ℕ)) (set : RecordSet) : Type 0 where
  pub inside : EndsWith set.name apex
  pub spelled : HasSpelling set

-- A zone by itself: its number is not 0, which is of no zone; its sets are in zone order and in
-- slots of their own, and each can stand in it.
pub record StandsAlone (zone : Zone) : Type 0 where
  pub numbered : 0 < zone.id
  pub sets : AreOfZone zone.placed
  pub each : AllByRecursion (λ p. CanStand zone.apex p.set) zone.placed

-- The zones stand by rising number, and no two of them have one name.
abbrev pub AreListed : List Zone → Type 0
AreListed [] = ⊤
AreListed (zone ∷ zones) =
    AllByRecursion (λ other. (zone.id < other.id) × (zone.apex ≢ other.apex)) zones
    × AreListed zones

-- A list of zones, each of them with the sets of a zone.
pub record AreZones (zones : List Zone) : Type 0 where
  pub listed : AreListed zones
  pub each : AllByRecursion StandsAlone zones
