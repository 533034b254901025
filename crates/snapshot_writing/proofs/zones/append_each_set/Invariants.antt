use Rattle.config_zones.specs.Zones.{placed_in}
use Rattle.zone_model.specs.Slotted.{sets_of}
use Rattle.snapshot_writing.proofs.Gathered.{AreAppended}
use Rattle.snapshot_writing.proofs.zones.append_each_set.Given as goal

abbrev pub invariant-loop-i : goal.invariant-loop-i
invariant-loop-i l =
    AreAppended l.fn.into.items (sets_of (placed_in l.zones.zones l.zone)) l.i l.into.items
