use Rattle.std.proofs.Common.{drop}
use Rattle.std.specs.Prelude.{◌↔◌}
use Rattle.check_model.specs.Checks.{IdsRise}
use Rattle.health_check.proofs.soundness.ids_rise.Given as goal

abbrev pub invariant-loop-i : goal.invariant-loop-i
invariant-loop-i l = IdsRise l.list ↔ IdsRise (drop l.i l.list)
