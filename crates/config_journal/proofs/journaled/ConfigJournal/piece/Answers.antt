use Rattle.std.proofs.Common.{refl, sym, subst}
use Rattle.std.specs.Prelude.{IsSome}
use Rattle.config_journal.proofs.Pieced.{holds_so, may_leave, stands_so}
use Rattle.config_journal.proofs.Pieces.{gives, in_progress}
use Rattle.config_journal.specs.Compacting.{PiecesGive, UnlessFaulty}
use Rattle.config_journal.specs.Holding.{Holds}
use Rattle.config_journal.specs.States.{State, config_of}
use Rattle.engine_model.specs.declared.answers.Compacted.{Compacted}
use Rattle.store_model.specs.Opening.{OpensConfig}
use Rattle.zone_journal.specs.Pairs.{EachPair, BothRead}
use Rattle.zone_journal.specs.Standing.{StandsOn}
use Rattle.config_journal.proofs.journaled.ConfigJournal.piece.Goals as goal

pub returns-clause-gives : goal.returns-clause-gives
returns-clause-gives g c =
    let p = in_progress c.self.inside.journal.plan
    (subst (λ (s : State). IsSome s.journal.plan) (sym c.self.view_is) c.requires.in_progress) in
    subst (λ (s : State). PiecesGive c.told_as.result s.journal 1 c.compact_piece.new.self)
    c.self.view_is
    (subst (λ (o : Compacted). PiecesGive o c.self.inside.journal 1 c.compact_piece.new.self)
    (sym c.told_as.ensures)
    (gives c.self.inside.journal p.its p.is c.compact_piece.new.self c.compact_piece.result
    (c.compact_piece.ensures.moves p.its p.is)))

pub returns-clause-stands : goal.returns-clause-stands
returns-clause-stands g c =
    subst (λ (o : Compacted). UnlessFaulty o (StandsOn g.D.Disk.reading g.D.Disk.images
    c.compact_piece.new.self c.compact_piece.new.a c.compact_piece.new.b))
    (sym c.told_as.ensures) (stands_so c.compact_piece.result c.compact_piece.ensures.stands)

pub returns-clause-holds : goal.returns-clause-holds
returns-clause-holds g c = λ held.
    let p = in_progress c.self.inside.journal.plan
    (subst (λ (s : State). IsSome s.journal.plan) (sym c.self.view_is) c.requires.in_progress) in
    let old : State = record { config = c.self.inside.config; journal = c.self.inside.journal } in
    let new : State = record { config = c.self.inside.config; journal = c.compact_piece.new.self } in
    subst (λ (o : Compacted). UnlessFaulty o (BothRead g.D.Disk.reading c.compact_piece.new.a
    c.compact_piece.new.b (Holds new))) (sym c.told_as.ensures)
    (holds_so g.D.Disk.reading g.D.Disk.moment g.D.Disk.images_since old new p.its p.is refl
    c.args.a.now c.compact_piece.new.a c.args.b.now c.compact_piece.new.b c.plan_makes.ensures
    c.pieces_open.ensures
    (subst (λ (s : State). BothRead g.D.Disk.reading c.args.a.now c.args.b.now (Holds s))
    (sym c.self.view_is) held)
    c.compact_piece.result (c.compact_piece.ensures.moves p.its p.is)
    c.compact_piece.ensures.leaves)

pub returns-clause-any_moment : goal.returns-clause-any_moment
returns-clause-any_moment g c = λ held.
    let p = in_progress c.self.inside.journal.plan
    (subst (λ (s : State). IsSome s.journal.plan) (sym c.self.view_is) c.requires.in_progress) in
    let old : State = record { config = c.self.inside.config; journal = c.self.inside.journal } in
    subst (λ (s : State). EachPair g.D.Disk.moment g.D.Disk.images_since c.args.a.now
    c.compact_piece.new.a c.args.b.now c.compact_piece.new.b (λ x y. OpensConfig x y (config_of s)))
    c.self.view_is
    (may_leave g.D.Disk.reading g.D.Disk.moment g.D.Disk.images_since old p.its p.is c.args.a.now
    c.compact_piece.new.a c.args.b.now c.compact_piece.new.b c.compact_piece.result
    c.plan_makes.ensures
    (subst (λ (s : State). BothRead g.D.Disk.reading c.args.a.now c.args.b.now (Holds s))
    (sym c.self.view_is) held)
    c.pieces_may_open.ensures c.compact_piece.ensures.any_moment)
