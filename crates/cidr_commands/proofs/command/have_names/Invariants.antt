use Rattle.std.proofs.Common.{drop}
use Rattle.std.specs.Prelude.{◌↔◌}
use Rattle.cidr_changes.specs.Laws.{HaveNames}
use Rattle.cidr_commands.proofs.command.have_names.Given as goal

abbrev pub invariant-loop-change : goal.invariant-loop-change
invariant-loop-change l = HaveNames l.changes ↔ HaveNames (drop l.change-index l.changes)
