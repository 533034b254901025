-- How the zones of a table are seen by definitions of configurations.
use Rattle.std.specs.Prelude.{◌≡◌, ◌↔◌, ℕ, List, [], ◌∷◌, ◌++◌, length, None, Some, true}
use Rattle.std.specs.List.{sum_by}
use Rattle.config_edits.specs.Laws.{hosted_in}
use Rattle.config_edits.specs.Configs.{all_sets, count_of, octets_of, zone_with}
use Rattle.config_edits.specs.NewZones.{has_zone}
use Rattle.config_zones.specs.Walks.{above}
use Rattle.config_edits.specs.Found.{IsNextZone, NextZoneOrNone}
use Rattle.config_edits.specs.Zones.{AreZones, HasName, IsOne, IsZoneId, Zone, placed_in}
use Rattle.config_edits.specs.Slotted.{sets_of}
use Rattle.config_edits.specs.Counted.{octets_in_all, sets_in_all}
use Rattle.config_edits.specs.Looking.{IsApex}

-- Zones are gone through from one number to the next.
pub record ZonesFollow : Type 0 where
  -- all have numbers above 0
  pub all : (zones : List Zone) → AreZones zones → above zones 0 ≡ zones
  -- the zone of the next number stands before those above it
  pub next : (zones : List Zone) (id next : ℕ) → AreZones zones → IsNextZone zones id next
      → (zone : Zone) × IsOne zones zone × (zone.id ≡ next)
      × (above zones id ≡ zone ∷ above zones next)
  -- so do its sets
  pub sets : (zones : List Zone) (id next : ℕ) → AreZones zones → IsNextZone zones id next
      → all_sets (hosted_in (above zones id))
      ≡ sets_of (placed_in zones next) ++ all_sets (hosted_in (above zones next))
  -- and where there is no next number there are none
  pub none : (zones : List Zone) (id : ℕ) → NextZoneOrNone zones id None → above zones id ≡ []

-- Zones are found by number and by name.
pub record ZonesAreFound : Type 0 where
  -- the zone of a number
  pub found : (zones : List Zone) (id : ℕ) (apex : List (List ℕ)) → AreZones zones
      → IsApex zones id apex
      → zone_with (hosted_in zones) id
      ≡ Some (record { id = id; apex = apex; sets = sets_of (placed_in zones id) })
  -- which isn't there where no zone has it
  pub none : (zones : List Zone) (id : ℕ) → (IsZoneId zones id → ⊥)
      → zone_with (hosted_in zones) id ≡ None
  -- a zone has the name
  pub named : (zones : List Zone) (name : List (List ℕ))
      → (has_zone (hosted_in zones) name ≡ true) ↔ HasName zones name

-- What is counted of zones is the same with the slots of their sets and without.
pub record CountsAgree : Type 0 where
  pub zones : (zones : List Zone) → length (hosted_in zones) ≡ length zones
  pub sets : (zones : List Zone) → sum_by count_of (hosted_in zones) ≡ sets_in_all zones
  pub octets : (zones : List Zone) → sum_by octets_of (hosted_in zones) ≡ octets_in_all zones
