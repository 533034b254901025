use Rattle.std.proofs.Common.{◌∙◌, subst, sym}
use Rattle.std.proofs.lemmas.Bool.{false≢true}
use Rattle.drill_run.proofs.Arms.{compacts, half_compacted}
use Rattle.line_server.proofs.Commands.{now}
use Rattle.engine_model.specs.declared.answers.Compacted.{Compacted}
use Rattle.line_server.proofs.Compactions.{asked, torn}
use Rattle.r53_core.specs.Journaled.{config_of}
use Rattle.r53_core.specs.Stores.{CompactionGives}
use Rattle.store_model.specs.Opening.{OpensConfig}
use Rattle.drill_run.proofs.taking.take_pieces.Goals as goal

pub returns-then-is_torn-clause-half : goal.returns-then-is_torn-clause-half
returns-then-is_torn-clause-half g c = λ tables old at held.
    half_compacted g.D.Disk.images c.compact-came.new.a c.compact-came.new.b tables old
    c.args.pieces
    (asked old.engine c.args.pieces c.compact-came.new.self
    (subst (λ (r : Compacted). CompactionGives old.engine c.args.pieces r c.compact-came.new.self)
    (c.is_torn.ensures.0 c.if-is_torn.true) (c.compact-came.ensures.gives old.engine at.stands)))
    (torn g.D.Disk.images c.compact-came.new.a c.compact-came.new.b old.engine c.args.pieces
    c.args.store.now at.stands
    (now g.D.Disk.reading g.D.Disk.images g.D.Disk.moment g.D.Disk.images_since
    g.met.D.Disk.counts_now c.args.a.now c.compact-came.new.a c.args.b.now c.compact-came.new.b
    (λ x y. OpensConfig x y (config_of c.args.store.now.kept))
    (c.compact-came.ensures.any_moment held)))

pub returns-clause-does : goal.returns-clause-does
returns-clause-does g c = λ tables old at.
    compacts tables old c.args.store.now c.args.tally.now at c.args.pieces c.compact-came.result
    c.compact-came.new.self
    (λ failed. false≢true (sym c.if-is_torn.false ∙ c.is_torn.ensures.1 failed))
    (c.compact-came.ensures.gives old.engine at.stands)

pub returns-clause-stands : goal.returns-clause-stands
returns-clause-stands g c = c.compact-came.ensures.stands
    (λ failed. false≢true (sym c.if-is_torn.false ∙ c.is_torn.ensures.1 failed))

pub returns-clause-holds : goal.returns-clause-holds
returns-clause-holds g c = λ held. c.compact-came.ensures.holds held
    (λ failed. false≢true (sym c.if-is_torn.false ∙ c.is_torn.ensures.1 failed))
