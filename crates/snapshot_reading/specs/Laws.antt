-- How the parts of a snapshot come to the whole.
use Rattle.std.specs.Prelude.{◌≡◌, ◌≢◌, ℕ, ◌<◌, List, [], ◌∷◌, ◌++◌, length, None, Some, IsErr, Ok}
use Rattle.dns_name.specs.Names.{AreOctets}
use Rattle.snapshot_octets.specs.Reading.{read, zone_at}
use Rattle.snapshot_reading.specs.Parts.{Begun, front_at, with_zones}
use Rattle.snapshot_reading.specs.Places.{found_at}
use Rattle.snapshot_octets.specs.Hosted.{HostedZone}

-- These zones stand one behind another, from a place on up to the place behind the last.
abbrev pub AreZones : (octets : List ℕ) → (at : ℕ) → List HostedZone → (end : ℕ) → Type 0
AreZones octets at [] end = at ≡ end
AreZones octets at (zone ∷ zones) end =
    (next : ℕ) × (found_at zone_at octets at ≡ Some (zone, next)) × AreZones octets next zones end

-- Octets are read up to a place: what stands in front of the zones, and these zones behind it.
pub record IsReadTo (octets : List ℕ) (begun : Begun) (zones : List HostedZone) (at : ℕ)
    : Type 0 where
  pub start : ℕ
  pub front : found_at front_at octets 0 ≡ Some (begun, start)
  pub each : AreZones octets start zones at

-- The front is read, then zone after zone. Where these are as many as the front says, and end with
-- the octets, the octets are read as that configuration; where a part isn't found, or octets are
-- left behind the last zone, they are read as none.
pub record SnapshotsReadInParts : Type 0 where
  pub begins : (octets : List ℕ) (begun : Begun) (at : ℕ)
      → found_at front_at octets 0 ≡ Some (begun, at) → IsReadTo octets begun [] at
  pub goes_on : (octets : List ℕ) (begun : Begun) (zones : List HostedZone) (at : ℕ)
      (zone : HostedZone) (next : ℕ) → IsReadTo octets begun zones at
      → found_at zone_at octets at ≡ Some (zone, next)
      → IsReadTo octets begun (zones ++ zone ∷ []) next
  pub ends : (octets : List ℕ) (begun : Begun) (zones : List HostedZone) → AreOctets octets
      → IsReadTo octets begun zones (length octets) → length zones ≡ begun.zones
      → read octets ≡ Ok (with_zones begun zones)
  pub no_front : (octets : List ℕ) → found_at front_at octets 0 ≡ None → IsErr (read octets)
  pub no_zone : (octets : List ℕ) (begun : Begun) (zones : List HostedZone) (at : ℕ)
      → AreOctets octets → IsReadTo octets begun zones at → length zones < begun.zones
      → found_at zone_at octets at ≡ None → IsErr (read octets)
  pub left_over : (octets : List ℕ) (begun : Begun) (zones : List HostedZone) (at : ℕ)
      → AreOctets octets → IsReadTo octets begun zones at → length zones ≡ begun.zones
      → at ≢ length octets → IsErr (read octets)
