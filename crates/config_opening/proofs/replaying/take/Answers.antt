use Rattle.std.proofs.Common.{Err, subst}
use Rattle.config_journal.specs.Gives.{GivesCommand}
use Rattle.config_journal.specs.Reading.{read}
use Rattle.config_opening.proofs.Replayed.{refused_so}
use Rattle.config_journal.specs.Kept.{config_in}
use Rattle.config_opening.proofs.replaying.take.Goals as goal

pub returns-in-Err-Bad-clause-refused : goal.returns-in-Err-Bad-clause-refused
returns-in-Err-Bad-clause-refused c = λ same.
    c.unread_are_refused.ensures (config_in c.args.config.now) c.args.entry.now
    c.in-Err-Bad.field-0-0
    (subst (λ f. GivesCommand (Err f) (read c.args.entry.now)) c.in-Err-Bad.field-0-is
    c.in-Err-Bad.ensures.exact)

pub returns-in-Err-clause-refused : goal.returns-in-Err-clause-refused
returns-in-Err-clause-refused c = λ same.
    refused_so c.refused_are_refused.ensures (config_in c.args.config.now) c.args.entry.now
    c.in-Ok.command c.in-Ok.ensures.found c.in-Err.why c.in-Err.ensures.refused
    c.not_taken.result c.not_taken.ensures same
