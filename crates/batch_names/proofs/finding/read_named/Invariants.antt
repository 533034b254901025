use Rattle.zone_table.specs.Zones.{placed_in}
use Rattle.zone_table.specs.Slotted.{sets_of}
use Rattle.batch_names.proofs.Runs.{ReadSo}
use Rattle.batch_names.proofs.finding.read_named.Given as goal

abbrev pub invariant-loop-place : goal.invariant-loop-place
invariant-loop-place l = ReadSo (sets_of (placed_in l.fn.zones.zones l.fn.zone)) l.fn.name
    l.fn.start
    l.fn.found.items l.place l.found.items
