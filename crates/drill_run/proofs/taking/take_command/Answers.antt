use Rattle.std.proofs.Common.{◌∙◌, Result, subst, sym}
use Rattle.std.proofs.lemmas.Bool.{false≢true}
use Rattle.config_model.specs.declared.refusals.Made.{Made}
use Rattle.config_model.specs.declared.refusals.Refusal.{Refusal}
use Rattle.drill_run.proofs.Arms.{commanded, half_commanded}
use Rattle.line_server.proofs.Commands.{asked, torn}
use Rattle.r53_core.specs.Stores.{CommandGives}
use Rattle.drill_run.proofs.taking.take_command.Goals as goal

pub returns-then-is_fault-clause-half : goal.returns-then-is_fault-clause-half
returns-then-is_fault-clause-half g c = λ tables old at held.
    let failed = c.is_fault.ensures.0 c.if-is_fault.true in
    half_commanded g.D.Disk.images c.command-came.new.a c.command-came.new.b tables old
    c.args.command
    (asked c.one_outcome.ensures old.engine c.args.command c.args.store.now c.command-came.new.self
    at.stands
    (subst (λ (r : Result Made Refusal). CommandGives old.engine c.args.command r
    c.command-came.new.self) failed (c.command-came.ensures.gives old.engine at.stands))
    (c.command-came.ensures.faulted failed))
    (torn g.D.Disk.reading g.D.Disk.images g.D.Disk.moment g.D.Disk.images_since
    g.met.D.Disk.counts_now c.args.a.now c.command-came.new.a c.args.b.now c.command-came.new.b
    c.one_outcome.ensures old.engine c.args.command c.args.store.now c.command-came.new.self
    c.standing_opens.ensures at.stands c.requires.stands held
    (subst (λ (r : Result Made Refusal). CommandGives old.engine c.args.command r
    c.command-came.new.self) failed (c.command-came.ensures.gives old.engine at.stands))
    (c.command-came.ensures.faulted failed)
    (λ after what decides. c.command-came.ensures.any_moment after what decides held))

pub returns-clause-does : goal.returns-clause-does
returns-clause-does g c = λ tables old at.
    commanded tables old c.args.store.now c.args.tally.now at c.args.command c.command-came.result
    c.command-came.new.self c.count_command.new.tally
    (λ failed. false≢true (sym c.if-is_fault.false ∙ c.is_fault.ensures.1 failed))
    (c.count_command.ensures.counted c.args.command c.batches_of-batches.ensures.is)
    (c.command-came.ensures.gives old.engine at.stands)

pub returns-clause-stands : goal.returns-clause-stands
returns-clause-stands g c = c.command-came.ensures.stands
    (λ failed. false≢true (sym c.if-is_fault.false ∙ c.is_fault.ensures.1 failed))

pub returns-clause-holds : goal.returns-clause-holds
returns-clause-holds g c = λ held. c.command-came.ensures.holds held
    (λ failed. false≢true (sym c.if-is_fault.false ∙ c.is_fault.ensures.1 failed))
