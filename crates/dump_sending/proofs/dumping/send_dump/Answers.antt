use Rattle.std.proofs.Common.{[], ◌++◌, ap, ◌∙◌, append-nil}
use Rattle.config_zones.specs.Configured.{config_of}
use Rattle.dump_sending.specs.Dumps.{dump_text}
use Rattle.set_sending.proofs.Passed.{begun}
use Rattle.dump_sending.proofs.dumping.send_dump.Goals as goal

pub returns-in-Whole-clause-writes : goal.returns-in-Whole-clause-writes
returns-in-Whole-clause-writes g c = λ held next is.
    let whole = dump_text (config_of c.args.zones.now c.args.checks.now.checks next) in
    c.send_last.ensures.writes held whole
    (c.in-Whole.ensures.passes held [] whole
    (begun held _ _ (whole ++ []) whole is
    (ap (λ t. t ++ (whole ++ [])) c.clear.ensures.items ∙ append-nil whole)))

pub returns-in-Failed-clause-writes : goal.returns-in-Failed-clause-writes
returns-in-Failed-clause-writes g c = λ held next is.
    let whole = dump_text (config_of c.args.zones.now c.args.checks.now.checks next) in
    c.in-Failed.ensures.passes held [] whole
    (begun held _ _ (whole ++ []) whole is
    (ap (λ t. t ++ (whole ++ [])) c.clear.ensures.items ∙ append-nil whole))
