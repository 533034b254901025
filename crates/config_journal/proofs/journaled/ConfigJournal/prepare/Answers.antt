use Rattle.std.proofs.Common.{subst, sym}
use Rattle.config_journal.proofs.Staying.{others}
use Rattle.config_journal.specs.States.{IsReady, State}
use Rattle.config_journal.proofs.journaled.ConfigJournal.prepare.Goals as goal

pub returns-in_err-prepared-clause-others : goal.returns-in_err-prepared-clause-others
returns-in_err-prepared-clause-others c = λ ready is.
    others (record { config = c.self.inside.config; journal = c.self.inside.journal })
    (record { config = c.prepare.new.self; journal = c.self.inside.journal })
    c.prepare.ensures.others ready
    (subst (λ (s : State). IsReady s ready) (sym c.self.view_is) is)

pub returns-clause-others : goal.returns-clause-others
returns-clause-others c = λ ready is.
    others (record { config = c.self.inside.config; journal = c.self.inside.journal })
    (record { config = c.prepare.new.self; journal = c.self.inside.journal })
    c.prepare.ensures.others ready
    (subst (λ (s : State). IsReady s ready) (sym c.self.view_is) is)
