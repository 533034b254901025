use Rattle.std.proofs.Common.{drop}
use Rattle.std.specs.Prelude.{◌↔◌}
use Rattle.cidr_commands.specs.Stored.{IdsRise}
use Rattle.cidr_commands.proofs.soundness.ids_rise.Given as goal

abbrev pub invariant-loop-i : goal.invariant-loop-i
invariant-loop-i l =
    IdsRise l.list
    ↔ IdsRise (drop l.i l.list)
