use Rattle.std.proofs.Common.{◌+◌, ◌∙◌, Result, arith, inl, refl, subst, sym}
use Rattle.batch_json.specs.declared.asking.Line.{Line}
use Rattle.drill_run.proofs.Steps.{below_more, on_mapped, read_half, read_taken, some_asked, torn_mapped}
use Rattle.line_faults.specs.declared.fault.LineFault.{LineFault}
use Rattle.session_model.specs.Asking.{Asks}
use Rattle.drill_run.proofs.taking.take_line.Goals as goal

pub returns-in-Ok-clause-does : goal.returns-in-Ok-clause-does
returns-in-Ok-clause-does g c = λ old at.
    on_mapped c.take_asked.result _ _
    (read_taken c.args.tables.now c.args.octets.now c.in-Ok.asked
    (subst (λ (r : Result Line LineFault). Asks c.args.octets.now r) c.in-Ok.is
    (c.ask.ensures.asks (λ e. some_asked c.in-Ok.asked (sym c.in-Ok.is ∙ e))))
    old c.take_asked.new.store c.take_asked.new.tally)
    (c.take_asked.ensures.does old at)

pub returns-in-Ok-clause-half : goal.returns-in-Ok-clause-half
returns-in-Ok-clause-half g c = λ old at held.
    torn_mapped c.take_asked.result _ _
    (read_half c.args.tables.now c.args.octets.now c.in-Ok.asked
    (subst (λ (r : Result Line LineFault). Asks c.args.octets.now r) c.in-Ok.is
    (c.ask.ensures.asks (λ e. some_asked c.in-Ok.asked (sym c.in-Ok.is ∙ e))))
    g.D.Disk.images c.take_asked.new.a c.take_asked.new.b old)
    (c.take_asked.ensures.half old at held)

pub returns-in-Err-clause-does : goal.returns-in-Err-clause-does
returns-in-Err-clause-does g c = λ old at. (old, inl refl, at)

pub returns-in-Err-clause-below : goal.returns-in-Err-clause-below
returns-in-Err-clause-below g c =
    below_more c.args.n (c.args.n + 1) c.args.tally.now (omega arith) c.requires.below
