use Rattle.std.proofs.Common.{drop}
use Rattle.std.specs.Prelude.{◌↔◌}
use Rattle.std.specs.List.{AllByRecursion}
use Rattle.command_codec.specs.Commands.{HasSet}
use Rattle.command_codec.proofs.parts.sets_in_changes.Given as goal

abbrev pub invariant-loop-change : goal.invariant-loop-change
invariant-loop-change l = AllByRecursion HasSet l.changes
    ↔ AllByRecursion HasSet (drop l.change-index l.changes)
