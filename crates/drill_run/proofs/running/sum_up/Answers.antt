use Rattle.std.proofs.Common.{◌∙◌, List, ℕ, subst, sym}
use Rattle.drill_run.proofs.Making.{summary_is, written_cause}
use Rattle.drill_run.specs.Leaving.{HasCause}
use Rattle.drill_run.specs.declared.answers.Drilled.{Drilled}
use Rattle.whole_writing.specs.Output.{OutputOf}
use Rattle.drill_run.proofs.running.sum_up.Goals as goal

pub returns-clause-writes : goal.returns-clause-writes
returns-clause-writes g c = λ end at. (
  c.write_whole.result,
  c.drilled_of.ensures,
  λ held tells. subst (λ (t : List ℕ). OutputOf held (g.K.Sink.held c.write_whole.new.out) c.write_whole.result t)
      (c.as_slice.ensures.value ∙ (c.write_summary.ensures ∙ summary_is c.args.events c.count_healthy.result
      c.args.tally.now end (c.count_healthy.ensures end.engine at.stands) at.counted))
      (c.write_whole.ensures.writes held tells),
)

pub returns-clause-told : goal.returns-clause-told
returns-clause-told g c = (c.write_whole.result, c.drilled_of.ensures)

pub returns-clause-cause : goal.returns-clause-cause
returns-clause-cause g c =
    subst (λ (d : Drilled). HasCause d 0 0 0 0 (g.K.Sink.faults c.args.out.now)
    (g.K.Sink.faults c.write_whole.new.out)) (sym c.drilled_of.ensures)
    (written_cause c.write_whole.result 0 0 0 0 (g.K.Sink.faults c.args.out.now)
    (g.K.Sink.faults c.write_whole.new.out) c.write_whole.ensures.failed)
