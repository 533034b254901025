use Rattle.std.proofs.Common.{arith, inl, inr, refl, subst, sym, ◌+◌}
use Rattle.batch_json.specs.declared.asking.Line.TheVariants as line
use Rattle.drill_run.proofs.Arms.{asked_so, half_asked}
use Rattle.drill_run.proofs.Steps.{below_more}
use Rattle.drill_run.specs.declared.taking.Went.TheVariants as went
use Rattle.r53_core.specs.Holding.{Holds}
use Rattle.r53_core.specs.Journaled.{State as Kept}
use Rattle.r53_core.specs.Stores.{State as Store}
use Rattle.zone_journal.specs.Pairs.{BothRead}
use Rattle.zone_journal.specs.Standing.{StandsOn}
use Rattle.drill_run.proofs.taking.take_asked.Goals as goal

pub returns-in-Control-clause-does : goal.returns-in-Control-clause-does
returns-in-Control-clause-does g c = λ old at.
    asked_so c.args.tables.now c.args.asked (line.Control c.in-Control.command) c.in-Control.is c.take_command.result old
    c.take_command.new.store c.take_command.new.tally (c.take_command.ensures.does c.args.tables.now old at)

pub returns-in-Control-clause-half : goal.returns-in-Control-clause-half
returns-in-Control-clause-half g c = λ old at held.
    half_asked c.args.tables.now c.args.asked (line.Control c.in-Control.command) c.in-Control.is c.take_command.result
    old g.D.Disk.images c.take_command.new.a c.take_command.new.b
    (c.take_command.ensures.half c.args.tables.now old at held)

pub returns-in-Compact-clause-does : goal.returns-in-Compact-clause-does
returns-in-Compact-clause-does g c = λ old at.
    asked_so c.args.tables.now c.args.asked (line.Compact c.in-Compact.pieces) c.in-Compact.is c.take_pieces.result old
    c.take_pieces.new.store c.args.tally.now (c.take_pieces.ensures.does c.args.tables.now old at)

pub returns-in-Compact-clause-half : goal.returns-in-Compact-clause-half
returns-in-Compact-clause-half g c = λ old at held.
    half_asked c.args.tables.now c.args.asked (line.Compact c.in-Compact.pieces) c.in-Compact.is c.take_pieces.result
    old g.D.Disk.images c.take_pieces.new.a c.take_pieces.new.b
    (c.take_pieces.ensures.half c.args.tables.now old at held)

pub returns-in-List-clause-does : goal.returns-in-List-clause-does
returns-in-List-clause-does g c = λ old at. (old, inl refl, at)

pub returns-in-List-clause-below : goal.returns-in-List-clause-below
returns-in-List-clause-below g c =
    below_more c.args.n (c.args.n + 1) c.args.tally.now (omega arith) c.requires.below

pub returns-in-Status-clause-does : goal.returns-in-Status-clause-does
returns-in-Status-clause-does g c = λ old at. (old, inl refl, at)

pub returns-in-Status-clause-below : goal.returns-in-Status-clause-below
returns-in-Status-clause-below g c =
    below_more c.args.n (c.args.n + 1) c.args.tally.now (omega arith) c.requires.below

pub returns-in-Bind-clause-does : goal.returns-in-Bind-clause-does
returns-in-Bind-clause-does g c = λ old at. (old, inl refl, at)

pub returns-in-Bind-clause-below : goal.returns-in-Bind-clause-below
returns-in-Bind-clause-below g c =
    below_more c.args.n (c.args.n + 1) c.args.tally.now (omega arith) c.requires.below

pub returns-in-Serve-clause-does : goal.returns-in-Serve-clause-does
returns-in-Serve-clause-does g c = λ old at. (old, inl refl, at)

pub returns-in-Serve-clause-below : goal.returns-in-Serve-clause-below
returns-in-Serve-clause-below g c =
    below_more c.args.n (c.args.n + 1) c.args.tally.now (omega arith) c.requires.below

pub returns-in-Compact-clause-below : goal.returns-in-Compact-clause-below
returns-in-Compact-clause-below g c =
    below_more c.args.n (c.args.n + 1) c.args.tally.now (omega arith) c.requires.below

pub returns-in-Observe-clause-does : goal.returns-in-Observe-clause-does
returns-in-Observe-clause-does g c = λ old at.
    let its = c.take_report.ensures.does c.args.tables.now old at in
    asked_so c.args.tables.now c.args.asked (line.Observe c.in-Observe.seen) c.in-Observe.is went.On
    old c.take_report.new.store c.take_report.new.tally (its.0, inr its.1, its.2)

pub returns-in-Observe-clause-stands : goal.returns-in-Observe-clause-stands
returns-in-Observe-clause-stands g c =
    subst (λ (k : Kept). StandsOn g.D.Disk.reading g.D.Disk.images k.journal c.args.a.now
    c.args.b.now) (sym c.take_report.ensures.kept) c.requires.stands

pub returns-in-Observe-clause-holds : goal.returns-in-Observe-clause-holds
returns-in-Observe-clause-holds g c = λ held.
    subst (λ (k : Kept). BothRead g.D.Disk.reading c.args.a.now c.args.b.now (Holds k))
    (sym c.take_report.ensures.kept) held

pub returns-in-Query-clause-does : goal.returns-in-Query-clause-does
returns-in-Query-clause-does g c = λ old at.
    asked_so c.args.tables.now c.args.asked (line.Query c.in-Query.packet) c.in-Query.is went.On old
    c.take_query.new.store c.take_query.new.tally (c.take_query.ensures.does old at)

pub returns-in-Query-clause-stands : goal.returns-in-Query-clause-stands
returns-in-Query-clause-stands g c =
    subst (λ (s : Store). StandsOn g.D.Disk.reading g.D.Disk.images s.kept.journal c.args.a.now
    c.args.b.now) (sym c.take_query.ensures.same) c.requires.stands

pub returns-in-Query-clause-holds : goal.returns-in-Query-clause-holds
returns-in-Query-clause-holds g c = λ held.
    subst (λ (s : Store). BothRead g.D.Disk.reading c.args.a.now c.args.b.now (Holds s.kept))
    (sym c.take_query.ensures.same) held
