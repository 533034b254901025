use Rattle.std.proofs.Common.{◌≡◌, ◌+◌, ◌≤◌, drop, length}
use Rattle.drill_run.proofs.Healthy.{Counted}
use Rattle.engine_model.specs.Engine.{Engine, is_healthy}
use Rattle.r53_core.specs.Stores.{StandsFor}
use Rattle.record_set.specs.Sets.{key_of}
use Rattle.record_set.specs.declared.sets.RecordSet.{RecordSet}
use Rattle.zone_table.specs.Zones.{placed_in}
use Rattle.zone_model.specs.Slotted.{sets_of}
use Rattle.drill_run.proofs.health.count_healthy.Given as goal

abbrev pub invariant-loop-i : goal.invariant-loop-i
invariant-loop-i l = record {
  few : l.count ≤ l.i;
  counted : (engine : Engine) → StandsFor engine l.fn.store
      → Counted (λ (set : RecordSet). is_healthy engine.config engine.reports 1 (key_of set))
      (sets_of (placed_in l.fn.store.kept.config.table.zones 1)) l.count l.i;
}
