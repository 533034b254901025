use Rattle.std.proofs.Common.{◌≡◌, drop}
use Rattle.config_zones.specs.Others.{is_check_named}
use Rattle.config_zones.specs.Zones.{placed_in}
use Rattle.zone_model.specs.Slotted.{sets_of}
use Rattle.check_commands.proofs.naming.is_named_in.Given as goal

abbrev pub invariant-loop-i : goal.invariant-loop-i
invariant-loop-i l =
    is_check_named l.id (drop l.i (sets_of (placed_in l.zones.zones l.zone)))
    ≡ is_check_named l.id (sets_of (placed_in l.zones.zones l.zone))
