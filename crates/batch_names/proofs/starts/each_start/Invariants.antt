use Rattle.std.proofs.Common.{take}
use Rattle.zone_table.specs.Zones.{placed_in}
use Rattle.zone_table.specs.Slotted.{sets_of}
use Rattle.batch_names.specs.Starts.{AreStarts}
use Rattle.batch_names.proofs.starts.each_start.Given as goal

abbrev pub invariant-loop-change : goal.invariant-loop-change
invariant-loop-change l = AreStarts (sets_of (placed_in l.fn.zones.zones l.fn.zone))
    (take l.change-index l.changes) l.starts.items
