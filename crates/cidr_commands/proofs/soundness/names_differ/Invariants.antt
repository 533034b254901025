use Rattle.std.proofs.Common.{drop}
use Rattle.std.specs.Prelude.{◌↔◌}
use Rattle.cidr_commands.specs.Stored.{NamesDiffer}
use Rattle.cidr_commands.proofs.soundness.names_differ.Given as goal

abbrev pub invariant-loop-i : goal.invariant-loop-i
invariant-loop-i l =
    NamesDiffer l.list
    ↔ NamesDiffer (drop l.i l.list)
