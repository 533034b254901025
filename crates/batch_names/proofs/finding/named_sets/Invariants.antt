use Rattle.std.proofs.Common.{drop}
use Rattle.zone_table.specs.Zones.{placed_in}
use Rattle.zone_table.specs.Slotted.{sets_of}
use Rattle.batch_names.proofs.Runs.{HasRead}
use Rattle.batch_names.proofs.finding.named_sets.Given as goal

abbrev pub invariant-loop-start : goal.invariant-loop-start
invariant-loop-start l = HasRead (sets_of (placed_in l.fn.zones.zones l.fn.zone)) l.fn.changes
    (drop l.start-index l.start-items) l.found.items
