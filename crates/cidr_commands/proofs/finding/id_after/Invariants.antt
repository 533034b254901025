use Rattle.std.proofs.Common.{ℕ, Option, drop}
use Rattle.cidr_commands.specs.Stored.{NextIdOrNone}
use Rattle.cidr_commands.proofs.finding.id_after.Given as goal

abbrev pub invariant-loop-held : goal.invariant-loop-held
invariant-loop-held l = (next : Option ℕ) → NextIdOrNone (drop l.held-index l.list) l.id next
    → NextIdOrNone l.list l.id next
