use Rattle.config_zones.specs.Zones.{placed_in}
use Rattle.zone_model.specs.Slotted.{sets_of}
use Rattle.collection_commands.proofs.Named.{IsGathered}
use Rattle.collection_commands.proofs.naming.add_all.Given as goal

abbrev pub invariant-loop-i : goal.invariant-loop-i
invariant-loop-i l =
    IsGathered l.fn.used.items (sets_of (placed_in l.zones.zones l.zone)) l.i l.used.items
