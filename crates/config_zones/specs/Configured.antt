-- The configuration that a table of zones and its health checks stand for, and the edit of the zones
-- by which it comes to be another.
use Rattle.std.specs.Prelude.{◌≡◌, ℕ, List, Result, Ok, Err, ⊤}
use Rattle.config_edits.specs.Differences.{IsDifference}
use Rattle.check_model.specs.Checks.{Checks}
use Rattle.config_edits.specs.CommandRecord.{Command}
use Rattle.config_edits.specs.CommandRecord.TheVariants as command
use Rattle.config_edits.specs.Laws.{changed_in, hosted_in}
use Rattle.config_edits.specs.Applying.{Applies, Decides}
use Rattle.config_edits.specs.Configs.{Config}
use Rattle.config_edits.specs.MadeRecord.{Made}
use Rattle.config_edits.specs.RefusalRecord.{Refusal}
use Rattle.config_edits.specs.Zones.{AreZones, Zone, placed_in}
use Rattle.config_edits.specs.Slotted.{sets_of}
use Rattle.config_edits.specs.ZonesOfZoneModel.{IsRising}
use Rattle.config_edits.specs.Edits.{Edits, IsAllowed, collections_after, zone_of}
use Rattle.config_edits.specs.Tables.{Table}
use Rattle.config_edits.specs.ZoneEditRecord.{ZoneEdit}
use Rattle.config_edits.specs.ZoneEditRecord.TheVariants as edit
use Rattle.config_edits.specs.DeltaRecord.{Delta}

-- The zones and the collections are the table's, whose zones have no slots for a configuration.
abbrev pub config_of : Table → Checks → (next_zone : ℕ) → Config
config_of table checks next_zone = record {
  zones = hosted_in table.zones;
  next_zone = next_zone;
  checks = checks;
  collections = table.collections;
}

-- A set that a change of a zone leaves as it is stands in neither of its lists; these are in zone
-- order, and so are the sets with which a zone is opened.
abbrev pub IsLeast : List Zone → ZoneEdit → Type 0
IsLeast zones (edit.Change zone remove add) =
    IsDifference (sets_of (placed_in zones zone)) (changed_in zones zone remove add) remove add
IsLeast zones (edit.Begin zone name sets) = IsRising sets
IsLeast zones other = ⊤

-- An edit of a table is allowed, makes of its zones and collections those of a configuration, and
-- changes no set that stays.
pub record EditMakes (table : Table) (made : ZoneEdit) (after : Config) : Type 0 where
  pub allowed : IsAllowed table.zones made
  pub zones : (zones : List Zone) (told : Delta) → AreZones table.zones → AreZones zones
      → Edits table.zones made zones told → hosted_in zones ≡ after.zones
  pub collections : collections_after made table.collections ≡ after.collections
  pub least : IsLeast table.zones made

-- The zone that the edit of a command is about; 0, which is of none, where it is about none.
abbrev pub zone_asked : Config → Command → ℕ
zone_asked config (command.CreateZone name servers) = config.next_zone
zone_asked config (command.DeleteZone id) = id
zone_asked config (command.Change batch) = batch.zone
zone_asked config (command.Health health) = 0
zone_asked config (command.Cidr cidr) = 0

-- The edit that makes what a command makes of a configuration, and is about the zone of the command.
abbrev pub IsEditFor : Config → Command → Table → ZoneEdit → Type 0
IsEditFor config given table made =
    (after : Config) × (what : Made) × Decides config given (Ok (after, what))
    × EditMakes table made after × (zone_of made ≡ zone_asked config given)

-- It, or why the command is refused, where memory may be wanted.
abbrev pub TellsEdit : Config → Command → Table → Result ZoneEdit Refusal → Type 0
TellsEdit config given table (Ok made) = IsEditFor config given table made
TellsEdit config given table (Err why) = Applies config given (Err why)

-- It, or why the command is refused, where no memory is taken.
abbrev pub TellsEditOnly : Config → Command → Table → Result ZoneEdit Refusal → Type 0
TellsEditOnly config given table (Ok made) = IsEditFor config given table made
TellsEditOnly config given table (Err why) = Decides config given (Err why)
