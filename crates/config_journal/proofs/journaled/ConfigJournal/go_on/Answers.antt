use Rattle.std.proofs.Common.{◌≡◌, ℕ, ◌+◌, ◌-◌, subst, arith}
use Rattle.config_journal.proofs.Going.{any_moment_so, at_start, config_stays, failed_so, gives_all}
use Rattle.config_journal.proofs.Going.{a_counts_so, b_counts_so, gives_so, goes_on, holds_so}
use Rattle.config_journal.proofs.Going.{rests_so}
use Rattle.config_journal.specs.Compacting.{PiecesGive}
use Rattle.config_journal.proofs.journaled.ConfigJournal.go_on.Goals as goal

pub loop-made-init : goal.loop-made-init
loop-made-init g c = at_start g.D.Disk.reading g.D.Disk.images g.D.Disk.moment
    g.D.Disk.images_since g.D.Disk.faults c.args.self.now c.args.a.now c.args.b.now
    c.standing_opens.ensures g.met.D.Disk.only_now c.requires.stands c.requires.in_progress

pub loop-made-preserved : goal.loop-made-preserved
loop-made-preserved g c = goes_on g.D.Disk.reading g.D.Disk.images g.D.Disk.moment
    g.D.Disk.images_since g.D.Disk.faults c.args.self.now c.args.a.now c.args.b.now
    c.loop-made.self c.loop-made.a c.loop-made.b c.loop-made.made c.loop-made.invariant
    c.piece.new.self c.piece.new.a c.piece.new.b c.in-Left.field-0 c.piece.ensures.config
    c.in-Left.ensures.gives (c.in-Left.ensures.stands (λ same. absurd (Prim.cc)))
    c.in-Left.ensures.holds c.piece.ensures.any_moment c.piece.ensures.rests
    c.piece.ensures.a_counts c.piece.ensures.b_counts c.pieces_follow.ensures

-- it ended before
pub returns-in_default : goal.returns-in_default
returns-in_default g c = record {
  config = config_stays g.D.Disk.reading g.D.Disk.images g.D.Disk.moment
      g.D.Disk.images_since g.D.Disk.faults c.args.self.now c.args.a.now c.args.b.now
      c.loop-made.self c.loop-made.a c.loop-made.b c.loop-made.made c.loop-made.invariant
      c.piece.new.self c.piece.new.a c.piece.new.b c.piece.result c.piece.ensures.config
      c.piece.ensures.gives c.piece.ensures.holds c.piece.ensures.any_moment c.piece.ensures.rests
      c.piece.ensures.a_counts c.piece.ensures.b_counts;
  gives = (let all : c.loop-made.made + 1 + (c.args.pieces - (c.loop-made.made + 1)) ≡ c.args.pieces
      = omega (arith, c.loop-made-test.true) in
      subst (λ (n : ℕ). PiecesGive c.piece.result c.args.self.now.journal n
      c.piece.new.self.journal) all
      (gives_all c.args.self.now.journal c.piece.new.self.journal (c.loop-made.made + 1)
      (c.args.pieces - (c.loop-made.made + 1)) c.piece.result
      (λ left same. c.in_default.not-Left left same)
      (gives_so g.D.Disk.reading g.D.Disk.images g.D.Disk.moment
      g.D.Disk.images_since g.D.Disk.faults c.args.self.now c.args.a.now c.args.b.now
      c.loop-made.self c.loop-made.a c.loop-made.b c.loop-made.made c.loop-made.invariant
      c.piece.new.self c.piece.new.a c.piece.new.b c.piece.result c.piece.ensures.config
      c.piece.ensures.gives c.piece.ensures.holds c.piece.ensures.any_moment c.piece.ensures.rests
      c.piece.ensures.a_counts c.piece.ensures.b_counts)));
  stands = c.piece.ensures.stands;
  holds = holds_so g.D.Disk.reading g.D.Disk.images g.D.Disk.moment
      g.D.Disk.images_since g.D.Disk.faults c.args.self.now c.args.a.now c.args.b.now
      c.loop-made.self c.loop-made.a c.loop-made.b c.loop-made.made c.loop-made.invariant
      c.piece.new.self c.piece.new.a c.piece.new.b c.piece.result c.piece.ensures.config
      c.piece.ensures.gives c.piece.ensures.holds c.piece.ensures.any_moment c.piece.ensures.rests
      c.piece.ensures.a_counts c.piece.ensures.b_counts;
  any_moment = any_moment_so g.D.Disk.reading g.D.Disk.images g.D.Disk.moment
      g.D.Disk.images_since g.D.Disk.faults c.args.self.now c.args.a.now c.args.b.now
      c.loop-made.self c.loop-made.a c.loop-made.b c.loop-made.made c.loop-made.invariant
      c.piece.new.self c.piece.new.a c.piece.new.b c.piece.result c.piece.ensures.config
      c.piece.ensures.gives c.piece.ensures.holds c.piece.ensures.any_moment c.piece.ensures.rests
      c.piece.ensures.a_counts c.piece.ensures.b_counts
      c.pieces_follow.ensures;
  rests = rests_so g.D.Disk.reading g.D.Disk.images g.D.Disk.moment
      g.D.Disk.images_since g.D.Disk.faults c.args.self.now c.args.a.now c.args.b.now
      c.loop-made.self c.loop-made.a c.loop-made.b c.loop-made.made c.loop-made.invariant
      c.piece.new.self c.piece.new.a c.piece.new.b c.piece.result c.piece.ensures.config
      c.piece.ensures.gives c.piece.ensures.holds c.piece.ensures.any_moment c.piece.ensures.rests
      c.piece.ensures.a_counts c.piece.ensures.b_counts;
  a_counts = a_counts_so g.D.Disk.reading g.D.Disk.images g.D.Disk.moment
      g.D.Disk.images_since g.D.Disk.faults c.args.self.now c.args.a.now c.args.b.now
      c.loop-made.self c.loop-made.a c.loop-made.b c.loop-made.made c.loop-made.invariant
      c.piece.new.self c.piece.new.a c.piece.new.b c.piece.result c.piece.ensures.config
      c.piece.ensures.gives c.piece.ensures.holds c.piece.ensures.any_moment c.piece.ensures.rests
      c.piece.ensures.a_counts c.piece.ensures.b_counts;
  b_counts = b_counts_so g.D.Disk.reading g.D.Disk.images g.D.Disk.moment
      g.D.Disk.images_since g.D.Disk.faults c.args.self.now c.args.a.now c.args.b.now
      c.loop-made.self c.loop-made.a c.loop-made.b c.loop-made.made c.loop-made.invariant
      c.piece.new.self c.piece.new.a c.piece.new.b c.piece.result c.piece.ensures.config
      c.piece.ensures.gives c.piece.ensures.holds c.piece.ensures.any_moment c.piece.ensures.rests
      c.piece.ensures.a_counts c.piece.ensures.b_counts;
  failed = λ same. failed_so g.D.Disk.reading g.D.Disk.images g.D.Disk.moment
      g.D.Disk.images_since g.D.Disk.faults c.args.self.now c.args.a.now c.args.b.now
      c.loop-made.self c.loop-made.a c.loop-made.b c.loop-made.made c.loop-made.invariant
      c.piece.new.self c.piece.new.a c.piece.new.b c.piece.result c.piece.ensures.config
      c.piece.ensures.gives c.piece.ensures.holds c.piece.ensures.any_moment c.piece.ensures.rests
      c.piece.ensures.a_counts c.piece.ensures.b_counts
      (c.piece.ensures.failed same);
}

-- the last one
pub returns-clause-gives : goal.returns-clause-gives
returns-clause-gives g c =
    let all : c.loop-made.made + 1 ≡ c.args.pieces
    = omega (arith, c.loop-made-test.false, c.loop-made.auto.made-end, c.requires.some) in
    subst (λ (n : ℕ). PiecesGive c.piece-2.result c.args.self.now.journal n
    c.piece-2.new.self.journal) all
    (gives_so g.D.Disk.reading g.D.Disk.images g.D.Disk.moment
    g.D.Disk.images_since g.D.Disk.faults c.args.self.now c.args.a.now c.args.b.now
    c.loop-made.self c.loop-made.a c.loop-made.b c.loop-made.made c.loop-made.invariant
    c.piece-2.new.self c.piece-2.new.a c.piece-2.new.b c.piece-2.result c.piece-2.ensures.config
    c.piece-2.ensures.gives c.piece-2.ensures.holds c.piece-2.ensures.any_moment c.piece-2.ensures.rests
    c.piece-2.ensures.a_counts c.piece-2.ensures.b_counts)

pub returns-clause-holds : goal.returns-clause-holds
returns-clause-holds g c = holds_so g.D.Disk.reading g.D.Disk.images g.D.Disk.moment
    g.D.Disk.images_since g.D.Disk.faults c.args.self.now c.args.a.now c.args.b.now
    c.loop-made.self c.loop-made.a c.loop-made.b c.loop-made.made c.loop-made.invariant
    c.piece-2.new.self c.piece-2.new.a c.piece-2.new.b c.piece-2.result c.piece-2.ensures.config
    c.piece-2.ensures.gives c.piece-2.ensures.holds c.piece-2.ensures.any_moment c.piece-2.ensures.rests
    c.piece-2.ensures.a_counts c.piece-2.ensures.b_counts

pub returns-clause-any_moment : goal.returns-clause-any_moment
returns-clause-any_moment g c = any_moment_so g.D.Disk.reading g.D.Disk.images g.D.Disk.moment
    g.D.Disk.images_since g.D.Disk.faults c.args.self.now c.args.a.now c.args.b.now
    c.loop-made.self c.loop-made.a c.loop-made.b c.loop-made.made c.loop-made.invariant
    c.piece-2.new.self c.piece-2.new.a c.piece-2.new.b c.piece-2.result c.piece-2.ensures.config
    c.piece-2.ensures.gives c.piece-2.ensures.holds c.piece-2.ensures.any_moment c.piece-2.ensures.rests
    c.piece-2.ensures.a_counts c.piece-2.ensures.b_counts
    c.pieces_follow.ensures
