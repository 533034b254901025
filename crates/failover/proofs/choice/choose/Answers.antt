use Rattle.std.proofs.Common.{sym, ◌∙◌}
use Rattle.failover.proofs.Walk.{healthy_primary, healthy_secondary, any_primary, the_secondary}
use Rattle.failover.proofs.choice.choose.Goals as goal

pub returns-in-Some-clause-chosen : goal.returns-in-Some-clause-chosen
returns-in-Some-clause-chosen c =
    healthy_primary c.args.roles.now c.args.healthy.now _ (sym c.in-Some.is ∙ c.find.ensures.first)

pub returns-in-Some-find-clause-chosen : goal.returns-in-Some-find-clause-chosen
returns-in-Some-find-clause-chosen c =
    healthy_secondary c.args.roles.now c.args.healthy.now (sym c.in_default.is
    ∙ c.find.ensures.first) _
    (sym c.in-Some-find.is ∙ c.find-2.ensures.first)

pub returns-in-Some-find-2-clause-chosen : goal.returns-in-Some-find-2-clause-chosen
returns-in-Some-find-2-clause-chosen c =
    any_primary c.args.roles.now c.args.healthy.now (sym c.in_default.is ∙ c.find.ensures.first)
    (sym c.in_default-find.is ∙ c.find-2.ensures.first) _ (sym c.in-Some-find-2.is
    ∙ c.find-3.ensures.first)

pub returns-clause-chosen : goal.returns-clause-chosen
returns-clause-chosen c =
    the_secondary c.args.roles.now c.args.healthy.now (sym c.in_default.is ∙ c.find.ensures.first)
    (sym c.in_default-find.is ∙ c.find-2.ensures.first) (sym c.in_default-find-2.is
    ∙ c.find-3.ensures.first)
