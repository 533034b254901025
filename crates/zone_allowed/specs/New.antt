-- Zones that are new beside those that are there.
use Rattle.std.specs.Prelude.{◌<◌, ℕ, List}
use Rattle.zone_table.specs.Zones.{HasName, IsZoneId, Zone}

-- No zone has the number or the name, and the number is not 0, which is of no zone.
abbrev pub IsNewZone : List Zone → (zone : ℕ) → (name : List (List ℕ)) → Type 0
IsNewZone zones zone name = (IsZoneId zones zone → ⊥) × (HasName zones name → ⊥) × (0 < zone)
