use Rattle.std.proofs.Common.{refl, subst, sym}
use Rattle.health_check.specs.Stored.{Kept as KeptChecks}
use Rattle.sound_configs.specs.Wired.{watched_of}
use Rattle.health_model.specs.Sound.{IsSound}
use Rattle.config_opening.specs.Kept.{config_in}
use Rattle.query_engine.specs.Tables.{Table}
use Rattle.r53_core.proofs.store.parts_over.Goals as goal

pub rebuild-requires : goal.rebuild-requires
rebuild-requires c = record {
  sound = subst (λ (t : Table). IsSound (watched_of t.zones c.checks.result.now.checks))
      (sym c.zones.ensures)
      (subst (λ (k : KeptChecks).
      IsSound (watched_of c.config-config.result.now.table.zones k.checks)) (sym c.checks.ensures)
      (c.sound_is_watched.ensures c.config-config.result.now.table.zones
      (config_in c.config-config.result.now) refl c.well_formed-2.ensures));
}
