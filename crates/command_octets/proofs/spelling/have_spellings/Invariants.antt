use Rattle.std.proofs.Common.{drop}
use Rattle.std.specs.Prelude.{◌↔◌}
use Rattle.std.specs.List.{AllByRecursion}
use Rattle.command_octets.specs.Octets.{HasSpelledSet}
use Rattle.command_octets.proofs.spelling.have_spellings.Given as goal

abbrev pub invariant-loop-change : goal.invariant-loop-change
invariant-loop-change l = AllByRecursion HasSpelledSet l.changes
    ↔ AllByRecursion HasSpelledSet (drop l.change-index l.changes)
