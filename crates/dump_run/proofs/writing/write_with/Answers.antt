use Rattle.std.proofs.Common.{ℕ, List, ap, subst, ◌∙◌}
use Rattle.config_opening.specs.Kept.{State, config_in}
use Rattle.dump_sending.specs.Dumps.{dump_text}
use Rattle.whole_writing.specs.Output.{OutputOf}
use Rattle.dump_run.proofs.writing.write_with.Goals as goal

pub returns-clause-writes : goal.returns-clause-writes
returns-clause-writes g c = λ held is.
    let its = c.args.kept.now.config in
    let table = c.zones.ensures ∙ ap (λ (s : State). s.table) c.config-config.ensures in
    let checks = c.checks.ensures ∙ ap (λ (s : State). s.checks) c.config-config.ensures in
    let same =
    ap (λ t. dump_text (config_in (record its { table = t; checks = c.checks.result.now }))) table
    ∙ ap (λ k. dump_text (config_in (record its { table = its.table; checks = k }))) checks in
    subst (λ (text : List ℕ).
    OutputOf held (g.K.Sink.held c.send_dump.new.out) c.send_dump.result text) same
    (c.send_dump.ensures.writes held its.next_zone is)
