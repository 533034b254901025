use Rattle.config_journal.proofs.Going.{Going}
use Rattle.config_journal.proofs.journaled.ConfigJournal.go_on.Given as goal

abbrev pub invariant-loop-made : goal.invariant-loop-made
invariant-loop-made g l = Going g.D.Disk.reading g.D.Disk.images g.D.Disk.moment
    g.D.Disk.images_since g.D.Disk.faults l.fn.self l.fn.a l.fn.b l.self l.a l.b l.made
