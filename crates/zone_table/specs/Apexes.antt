-- What is known of the names of a table's zones.
use Rattle.std.specs.Prelude.{◌≡◌, ◌↔◌, List, Option, None, Some, ⊤}
use Rattle.zone_list.specs.Sets.{IsAmong}
use Rattle.zone_list.specs.declared.apexes.NamedZone.{NamedZone}
use Rattle.zone_list.specs.Apexes.{Comes, Goes}
use Rattle.zone_list.specs.Zones.{Zone}
use Rattle.zone_table.specs.declared.edits.ZoneEdit.{ZoneEdit}
use Rattle.zone_table.specs.declared.edits.ZoneEdit.TheVariants as edit
use Rattle.zone_finding.specs.Looking.{IsApex}

-- The numbers and names that are known, if any are, are those of the zones.
abbrev pub KnowsNames : Option (List NamedZone) → List Zone → Type 0
KnowsNames None zones = ⊤
KnowsNames (Some list) zones = (apex : NamedZone) → IsAmong list apex ↔ IsApex zones apex.id apex.name

-- what is known of names once an edit is noted
abbrev pub Notes : Option (List NamedZone) → ZoneEdit → Option (List NamedZone) → Type 0
Notes before (edit.Begin zone name sets) after =
    Comes before (record { id = zone; name = name }) after
Notes before (edit.End zone) after = Goes before zone after
Notes before (edit.Change zone remove add) after = after ≡ before
Notes before (edit.Collections now) after = after ≡ before
