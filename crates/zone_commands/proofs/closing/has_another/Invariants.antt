use Rattle.std.proofs.Common.{◌≡◌, drop}
use Rattle.std.specs.List.{list_any}
use Rattle.config_zones.specs.NewZones.{is_another}
use Rattle.config_zones.specs.Zones.{placed_in}
use Rattle.zone_model.specs.Slotted.{sets_of}
use Rattle.zone_commands.proofs.closing.has_another.Given as goal

abbrev pub invariant-loop-i : goal.invariant-loop-i
invariant-loop-i l =
    list_any (is_another l.apex) (drop l.i (sets_of (placed_in l.zones.zones l.zone)))
    ≡ list_any (is_another l.apex) (sets_of (placed_in l.zones.zones l.zone))
