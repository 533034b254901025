use Rattle.std.proofs.Common.{◌≡◌, None, ◌∙◌, subst, sym}
use Rattle.std.proofs.lemmas.Bool.{false≢true}
use Rattle.serve_turns.specs.Journaled.{config_of}
use Rattle.serve_turns.specs.CompactedRecord.{Compacted}
use Rattle.line_server.proofs.Commands.{leaves, now}
use Rattle.line_server.proofs.Compactions.{asked, at_fault, made, stood, torn}
use Rattle.line_server.specs.Leaving.{StoreLeaves}
use Rattle.line_server.specs.Replying.{Compacts}
use Rattle.line_server.specs.declared.answers.Taken.{Taken}
use Rattle.serve_turns.specs.Stores.{CompactionGives, StandsFor}
use Rattle.reply_sending.specs.Outcomes.{text_of}
use Rattle.reply_sending.specs.OutcomeRecord.{Outcome}
use Rattle.serve_turns.specs.Opening.{OpensConfig}
use Rattle.whole_writing.specs.Output.{OutputOf}
use Rattle.line_server.proofs.compacting.compact.Goals as goal

pub returns-then-is_fault-clause-torn : goal.returns-then-is_fault-clause-torn
returns-then-is_fault-clause-torn g c = λ is engine stands held.
    torn g.D.Disk.images c.compact-came.new.a c.compact-came.new.b engine c.args.pieces
    c.args.store.now stands
    (now g.D.Disk.reading g.D.Disk.images g.D.Disk.moment g.D.Disk.images_since
    g.met.D.Disk.counts_now c.args.a.now c.compact-came.new.a c.args.b.now c.compact-came.new.b
    (λ x y. OpensConfig x y (config_of c.args.store.now.kept))
    (c.compact-came.ensures.any_moment held))

pub returns-then-is_fault-clause-leaves : goal.returns-then-is_fault-clause-leaves
returns-then-is_fault-clause-leaves g c = λ engine held stands tells. (
  tells,
  at_fault engine c.args.pieces c.compact-came.new.self
      (subst (λ (r : Compacted). CompactionGives engine c.args.pieces r c.compact-came.new.self)
      (c.is_fault.ensures.0 c.if-is_fault.true) (c.compact-came.ensures.gives engine stands)),
)

pub returns-then-is_fault-clause-asked : goal.returns-then-is_fault-clause-asked
returns-then-is_fault-clause-asked g c = λ is engine stands.
    asked engine c.args.pieces c.compact-came.new.self
    (subst (λ (r : Compacted). CompactionGives engine c.args.pieces r c.compact-came.new.self)
    (c.is_fault.ensures.0 c.if-is_fault.true) (c.compact-came.ensures.gives engine stands))

pub returns-then-is_fault-clause-made : goal.returns-then-is_fault-clause-made
returns-then-is_fault-clause-made g c = λ engine stands.
    stood engine c.args.pieces c.compact-came.result c.compact-came.new.self
    (c.compact-came.ensures.gives engine stands)

pub returns-clause-made : goal.returns-clause-made
returns-clause-made g c = λ engine stands.
    stood engine c.args.pieces c.compact-came.result c.compact-came.new.self
    (c.compact-came.ensures.gives engine stands)

pub returns-clause-leaves : goal.returns-clause-leaves
returns-clause-leaves g c = λ engine held stands tells.
    let Same = (c.compact-came.new.a ≡ c.args.a.now) × (c.compact-came.new.b ≡ c.args.b.now) in
    let May = (engine.journal.plan ≡ None) × Same in
    subst (λ (t : Taken). StoreLeaves May t (Compacts c.args.pieces) engine
    (λ after. StandsFor after c.compact-came.new.self) held (g.K.Sink.held c.send_outcome.new.out))
    (sym c.sent.ensures)
    (leaves May c.send_outcome.result (Compacts c.args.pieces) engine
    (λ after. StandsFor after c.compact-came.new.self) held (g.K.Sink.held c.send_outcome.new.out)
    (made engine c.args.pieces c.compact-came.result c.compact-came.new.self Same
    (λ failed. false≢true (sym c.if-is_fault.false ∙ c.is_fault.ensures.1 failed))
    c.compact-came.ensures.none
    (c.compact-came.ensures.gives engine stands) c.send_outcome.result held
    (g.K.Sink.held c.send_outcome.new.out)
    (subst (λ (o : Outcome). OutputOf held (g.K.Sink.held c.send_outcome.new.out)
    c.send_outcome.result (text_of o)) c.outcome_of.ensures
    (c.send_outcome.ensures.writes held tells))))

pub returns-clause-stands : goal.returns-clause-stands
returns-clause-stands g c = λ whole. c.compact-came.ensures.stands
    (λ failed. false≢true (sym c.if-is_fault.false ∙ c.is_fault.ensures.1 failed))

pub returns-clause-holds : goal.returns-clause-holds
returns-clause-holds g c = λ held whole. c.compact-came.ensures.holds held
    (λ failed. false≢true (sym c.if-is_fault.false ∙ c.is_fault.ensures.1 failed))
