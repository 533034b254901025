use Rattle.std.proofs.Common.{take}
use Rattle.batch_limits.specs.Batches.{Leaves}
use Rattle.set_search.specs.Zones.{IsZone}
use Rattle.zone_rules.specs.Lent.{sets_lent}
use Rattle.change_batch.proofs.whole.lend_after.Given as goal

abbrev pub invariant-loop-i : goal.invariant-loop-i
invariant-loop-i l = record {
  leaves : Leaves l.fn.sets l.fn.apex (take l.i l.changes) (sets_lent l.after.items);
  zone : IsZone (sets_lent l.after.items) l.fn.apex;
}
