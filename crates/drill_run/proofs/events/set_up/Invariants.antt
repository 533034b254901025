use Rattle.std.proofs.Common.{◌≡◌, ◌*◌, ◌≤◌}
use Rattle.drill_run.specs.Counting.{IsBelow, Progress, HasProgress, uncounted}
use Rattle.drill_run.specs.Drills.{EventLinesRun, SetsUp}
use Rattle.engine_model.specs.Engine.{Engine}
use Rattle.r53_core.specs.Holding.{Holds}
use Rattle.r53_core.specs.Stores.{StandsFor}
use Rattle.zone_journal.specs.Pairs.{BothRead}
use Rattle.zone_journal.specs.Standing.{StandsOn}
use Rattle.drill_run.proofs.events.set_up.Given as goal

abbrev pub invariant-loop-i : goal.invariant-loop-i
invariant-loop-i g l = record {
  does : (start : Engine) → StandsFor start l.fn.store
      → (at : Progress) × SetsUp l.i (uncounted start) at × HasProgress at l.store l.tally;
  below : IsBelow l.i l.tally;
  room : l.reply.room ≡ l.fn.reply.room;
  stands : StandsOn g.D.Disk.reading g.D.Disk.images l.store.kept.journal l.a l.b;
  holds : BothRead g.D.Disk.reading l.fn.a l.fn.b (Holds l.fn.store.kept)
      → BothRead g.D.Disk.reading l.a l.b (Holds l.store.kept);
  a_counts : g.D.Disk.faults l.fn.a ≤ g.D.Disk.faults l.a;
  b_counts : g.D.Disk.faults l.fn.b ≤ g.D.Disk.faults l.b;
}
