use Rattle.std.proofs.Common.{subst}
use Rattle.cidr_commands.specs.Stored.{NextIdOrNone, Stored}
use Rattle.cidr_routing.proofs.collections.Collections.next_id.Goals as goal

pub returns-clause-next : goal.returns-clause-next
returns-clause-next c =
    subst (λ (s : Stored). NextIdOrNone s.list c.args.id c.id_after.result) c.self.view_is
    (subst (λ l. NextIdOrNone l c.args.id c.id_after.result) c.deref.ensures.value
    c.id_after.ensures)
