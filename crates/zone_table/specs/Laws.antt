-- Laws over the definitions of this crate.
use Rattle.std.specs.Prelude.{◌≡◌, ℕ, List, length, map}
use Rattle.zone_list.specs.Zones.{Zone, AreListed, AreZones, IsOne, hosted, placed_in}
use Rattle.zone_table.specs.declared.edits.ZoneEdit.{ZoneEdit}
use Rattle.zone_table.specs.declared.refs.Delta.{Delta}
use Rattle.zone_table.specs.Edits.{Edits, IsAllowed}
use Rattle.zone_finding.specs.Looking.{IsApex}

-- A number has one name at most.
abbrev pub OneApex : Type 0
OneApex = (zones : List Zone) (id : ℕ) (one other : List (List ℕ)) → AreZones zones
    → IsApex zones id one → IsApex zones id other → one ≡ other

-- The sets of a number are those of the zone that has it.
abbrev pub SetsOfOne : Type 0
SetsOfOne = (zones : List Zone) (zone : Zone) → AreListed zones → IsOne zones zone
    → placed_in zones zone.id ≡ zone.placed

-- The zones and what is told of them are the same, but for the slots of sets.
pub record AreAlike (one other : List Zone) (told other_told : Delta) : Type 0 where
  pub zones : map hosted one ≡ map hosted other
  pub zone : told.zone ≡ other_told.zone
  pub removed : told.removed ≡ other_told.removed
  pub added : length told.added ≡ length other_told.added

-- An allowed edit makes one thing, but for the slots of the sets that it puts.
abbrev pub OneEdit : Type 0
OneEdit =
    (before one other : List Zone) (made : ZoneEdit) (told other_told : Delta)
    → AreZones before → AreZones one → AreZones other → IsAllowed before made
    → Edits before made one told → Edits before made other other_told
    → AreAlike one other told other_told
