use Rattle.std.proofs.Common.{sym, subst}
use Rattle.dns_wire.specs.Draft.{StandsFor}
use Rattle.dns_wire.proofs.Drafts.{stands_on}
use Rattle.dns_wire.proofs.reply.Reply.record.Goals as goal

pub returns-clause-stands : goal.returns-clause-stands
returns-clause-stands c =
    λ m s f. subst (StandsFor _) (sym c.add.ensures)
    (stands_on c.args.section _ m c.args.self.now s f)
