use Rattle.std.proofs.Common.{refl, ◌∙◌}
use Rattle.health_index.proofs.index.HealthIndex.rebuild.Goals as goal

pub returns : goal.returns
returns c = record {
  stands = c.lay.ensures.first (c.in-Ok-reserve.ensures.keeps.ids ∙ c.empty-index.ensures) refl;
  laid = c.lay.ensures.laid;
}
