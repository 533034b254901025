use Rattle.std.proofs.Common.{◌≡◌, ◌∙◌, Result, subst, sym}
use Rattle.std.proofs.lemmas.Bool.{false≢true}
use Rattle.reply_sending.specs.MadeRecord.{Made}
use Rattle.reply_sending.specs.RefusalRecord.{Refusal}
use Rattle.line_server.proofs.Commands.{asked, at_fault, commanded, leaves, made, torn}
use Rattle.line_server.specs.Leaving.{StoreLeaves}
use Rattle.line_server.specs.Replying.{Commanded}
use Rattle.line_server.specs.declared.answers.Taken.{Taken}
use Rattle.serve_turns.specs.Stores.{CommandGives, StandsFor}
use Rattle.reply_sending.specs.Outcomes.{text_of}
use Rattle.reply_sending.specs.OutcomeRecord.{Outcome}
use Rattle.whole_writing.specs.Output.{OutputOf}
use Rattle.line_server.proofs.commanding.control.Goals as goal

pub returns-then-is_fault-clause-torn : goal.returns-then-is_fault-clause-torn
returns-then-is_fault-clause-torn g c = λ is engine stands held.
    let failed = c.is_fault.ensures.0 c.if-is_fault.true in
    torn g.D.Disk.reading g.D.Disk.images g.D.Disk.moment g.D.Disk.images_since
    g.met.D.Disk.counts_now c.args.a.now c.command-came.new.a c.args.b.now c.command-came.new.b
    c.one_outcome.ensures engine c.args.command c.args.store.now c.command-came.new.self
    c.standing_opens.ensures stands c.requires.stands held
    (subst (λ (r : Result Made Refusal). CommandGives engine c.args.command r
    c.command-came.new.self) failed (c.command-came.ensures.gives engine stands))
    (c.command-came.ensures.faulted failed)
    (λ after what decides. c.command-came.ensures.any_moment after what decides held)

pub returns-then-is_fault-clause-leaves : goal.returns-then-is_fault-clause-leaves
returns-then-is_fault-clause-leaves g c = λ engine held stands tells. (
  tells,
  (
    engine.journal,
    at_fault engine c.args.command c.command-came.new.self
        (subst (λ (r : Result Made Refusal). CommandGives engine c.args.command r
        c.command-came.new.self) (c.is_fault.ensures.0 c.if-is_fault.true)
        (c.command-came.ensures.gives engine stands)),
  ),
)

pub returns-then-is_fault-clause-asked : goal.returns-then-is_fault-clause-asked
returns-then-is_fault-clause-asked g c = λ is engine stands.
    let failed = c.is_fault.ensures.0 c.if-is_fault.true in
    asked c.one_outcome.ensures engine c.args.command c.args.store.now c.command-came.new.self
    stands
    (subst (λ (r : Result Made Refusal). CommandGives engine c.args.command r
    c.command-came.new.self) failed (c.command-came.ensures.gives engine stands))
    (c.command-came.ensures.faulted failed)

pub returns-then-is_fault-clause-made : goal.returns-then-is_fault-clause-made
returns-then-is_fault-clause-made g c = λ engine stands.
    made engine c.args.command c.command-came.result c.command-came.new.self
    (c.command-came.ensures.gives engine stands)

pub returns-clause-made : goal.returns-clause-made
returns-clause-made g c = λ engine stands.
    made engine c.args.command c.command-came.result c.command-came.new.self
    (c.command-came.ensures.gives engine stands)

pub returns-clause-leaves : goal.returns-clause-leaves
returns-clause-leaves g c = λ engine held stands tells.
    let May = (c.command-came.new.a ≡ c.args.a.now) × (c.command-came.new.b ≡ c.args.b.now) in
    subst (λ (t : Taken). StoreLeaves May t (Commanded c.args.command) engine
    (λ after. StandsFor after c.command-came.new.self) held (g.K.Sink.held c.send_outcome.new.out))
    (sym c.sent.ensures)
    (leaves May c.send_outcome.result (Commanded c.args.command) engine
    (λ after. StandsFor after c.command-came.new.self) held (g.K.Sink.held c.send_outcome.new.out)
    (commanded engine c.args.command c.command-came.result c.command-came.new.self May
    (λ failed. false≢true (sym c.if-is_fault.false ∙ c.is_fault.ensures.1 failed))
    c.command-came.ensures.refused
    (c.command-came.ensures.gives engine stands) c.send_outcome.result held
    (g.K.Sink.held c.send_outcome.new.out)
    (subst (λ (o : Outcome). OutputOf held (g.K.Sink.held c.send_outcome.new.out)
    c.send_outcome.result (text_of o))
    (c.outcome_of.ensures c.args.command c.told_of-told.ensures.line c.told_of-told.ensures.name)
    (c.send_outcome.ensures.writes held tells))))

pub returns-clause-stands : goal.returns-clause-stands
returns-clause-stands g c = λ whole. c.command-came.ensures.stands
    (λ failed. false≢true (sym c.if-is_fault.false ∙ c.is_fault.ensures.1 failed))

pub returns-clause-holds : goal.returns-clause-holds
returns-clause-holds g c = λ held whole. c.command-came.ensures.holds held
    (λ failed. false≢true (sym c.if-is_fault.false ∙ c.is_fault.ensures.1 failed))
