use Rattle.std.proofs.Common.{subst}
use Rattle.check_model.specs.Checks.{NextIdOrNone}
use Rattle.health_check.specs.Stored.{Kept}
use Rattle.health_check.proofs.table.CheckTable.after.Goals as goal

pub returns-clause-next : goal.returns-clause-next
returns-clause-next c =
    subst (λ (s : Kept). NextIdOrNone s.checks.list c.args.id c.id_after.result) c.self.view_is
    (subst (λ l. NextIdOrNone l c.args.id c.id_after.result) c.deref.ensures.value
    c.id_after.ensures)
