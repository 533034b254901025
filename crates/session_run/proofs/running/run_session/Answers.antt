use Rattle.std.proofs.Common.{◌≡◌, ℕ, List, Err, Some, ap, arith, refl, subst, sym}
use Rattle.session_run.specs.Running.{FilesSay, HasCauseOf, IfUntabled, RunLeaves, SessionKeeps, TablesSay, UnlessEnded}
use Rattle.session_run.specs.declared.ran.Ran.{Ran}
use Rattle.zone_journal.specs.Pairs.{Unwritten}
use Rattle.table_lines.specs.declared.reading.TablesFault.{TablesFault}
use Rattle.session_run.proofs.Opened.{files_untold, is_untabled, not_read, tabled_any, tables_faulty, tables_good, unread_cause, unread_keeps, with_tables, without_tables}
use Rattle.session_run.proofs.running.run_session.Goals as goal

pub returns-in-Ok-clause-leaves : goal.returns-in-Ok-clause-leaves
returns-in-Ok-clause-leaves g c = λ given told.
    with_tables g.D.Disk.images c.open_session.new.a c.open_session.new.b given c.in-Ok.rows
    (g.S.Source.left c.open_session.new.input) (g.L.Link.coming c.open_session.new.link)
    (g.R.Rng.stream c.open_session.new.words) (g.K.Sink.held c.open_session.new.out)
    (g.L.Link.sent c.open_session.new.link) (c.in-Ok.ensures.reads given.rows told.rows_are).0
    c.open_session.result
    (c.open_session.ensures.leaves given (record {
      input_is = told.input_is;
      rows_are = refl;
      x_is = told.x_is;
      y_is = told.y_is;
      held_is = told.held_is;
      ports_are = told.ports_are;
      arrivals_are = told.arrivals_are;
      before_is = told.before_is;
      words_are = told.words_are;
    }))

pub returns-in-Err-clause-leaves : goal.returns-in-Err-clause-leaves
returns-in-Err-clause-leaves g c = λ given told.
    subst (λ (r : Ran). RunLeaves r g.D.Disk.images c.args.a.now c.args.b.now given
    (g.S.Source.left c.args.input.now) (g.L.Link.coming c.args.link.now)
    (g.R.Rng.stream c.args.words.now) (g.K.Sink.held c.args.out.now)
    (g.L.Link.sent c.args.link.now)) (sym c.unread.ensures)
    (not_read g.D.Disk.images c.args.a.now c.args.b.now given (g.S.Source.left c.args.input.now)
    (g.L.Link.coming c.args.link.now) (g.R.Rng.stream c.args.words.now) (g.K.Sink.held c.args.out.now) (g.L.Link.sent c.args.link.now) (told.held_is, told.before_is)
    (g.T.Source.left c.read_tables.new.source) c.in-Err.fault
    (c.in-Err.ensures.reads given.rows told.rows_are))

pub returns-in-Err-clause-a_unwritten : goal.returns-in-Err-clause-a_unwritten
returns-in-Err-clause-a_unwritten g c =
    subst (λ (r : Ran). UnlessEnded r ((bytes : List ℕ) → g.D.Disk.reading c.args.a.now ≡ Some bytes
    → Unwritten g.D.Disk.reading g.D.Disk.images g.D.Disk.moment g.D.Disk.images_since
    c.args.a.now c.args.a.now)) (sym c.unread.ensures)
    (without_tables c.in-Err.fault ((bytes : List ℕ) → g.D.Disk.reading c.args.a.now ≡ Some bytes
    → Unwritten g.D.Disk.reading g.D.Disk.images g.D.Disk.moment g.D.Disk.images_since
    c.args.a.now c.args.a.now) (λ bytes reads. record {
      reads = refl;
      leaves = λ image is. is;
      later = omega arith;
      before = λ t image earlier is. is;
    }))

pub returns-in-Err-clause-b_unwritten : goal.returns-in-Err-clause-b_unwritten
returns-in-Err-clause-b_unwritten g c =
    subst (λ (r : Ran). UnlessEnded r ((bytes : List ℕ) → g.D.Disk.reading c.args.b.now ≡ Some bytes
    → Unwritten g.D.Disk.reading g.D.Disk.images g.D.Disk.moment g.D.Disk.images_since
    c.args.b.now c.args.b.now)) (sym c.unread.ensures)
    (without_tables c.in-Err.fault ((bytes : List ℕ) → g.D.Disk.reading c.args.b.now ≡ Some bytes
    → Unwritten g.D.Disk.reading g.D.Disk.images g.D.Disk.moment g.D.Disk.images_since
    c.args.b.now c.args.b.now) (λ bytes reads. record {
      reads = refl;
      leaves = λ image is. is;
      later = omega arith;
      before = λ t image earlier is. is;
    }))

pub returns-in-Err-clause-cause : goal.returns-in-Err-clause-cause
returns-in-Err-clause-cause g c =
    subst (λ (r : Ran). HasCauseOf r (g.S.Source.faults c.args.input.now)
    (g.S.Source.faults c.args.input.now) (g.T.Source.faults c.args.tables.now)
    (g.T.Source.faults c.read_tables.new.source) (g.D.Disk.faults c.args.a.now)
    (g.D.Disk.faults c.args.a.now) (g.D.Disk.faults c.args.b.now) (g.D.Disk.faults c.args.b.now)
    (g.L.Link.faults c.args.link.now) (g.L.Link.faults c.args.link.now)
    (g.K.Sink.faults c.args.out.now) (g.K.Sink.faults c.args.out.now)) (sym c.unread.ensures)
    (unread_cause (g.S.Source.faults c.args.input.now) (g.S.Source.faults c.args.input.now)
    (g.T.Source.faults c.args.tables.now) (g.T.Source.faults c.read_tables.new.source)
    (g.D.Disk.faults c.args.a.now) (g.D.Disk.faults c.args.a.now) (g.D.Disk.faults c.args.b.now)
    (g.D.Disk.faults c.args.b.now) (g.L.Link.faults c.args.link.now)
    (g.L.Link.faults c.args.link.now) (g.K.Sink.faults c.args.out.now)
    (g.K.Sink.faults c.args.out.now) c.in-Err.fault
    (λ is. c.in-Err.ensures.failed (ap (λ (f : TablesFault). Err f) is)))

pub returns-in-Err-clause-unasked : goal.returns-in-Err-clause-unasked
returns-in-Err-clause-unasked g c =
    subst (λ (r : Ran). UnlessEnded r ((c.args.input.now ≡ c.args.input.now)
    × (c.args.out.now ≡ c.args.out.now) × (c.args.link.now ≡ c.args.link.now)
    × (c.args.words.now ≡ c.args.words.now))) (sym c.unread.ensures)
    (without_tables c.in-Err.fault ((c.args.input.now ≡ c.args.input.now)
    × (c.args.out.now ≡ c.args.out.now) × (c.args.link.now ≡ c.args.link.now)
    × (c.args.words.now ≡ c.args.words.now)) (refl, refl, refl, refl))

pub returns-in-Err-clause-unopened : goal.returns-in-Err-clause-unopened
returns-in-Err-clause-unopened g c =
    subst (λ (r : Ran). IfUntabled r ((c.args.a.now ≡ c.args.a.now) × (c.args.b.now ≡ c.args.b.now)))
    (sym c.unread.ensures)
    (is_untabled c.in-Err.fault ((c.args.a.now ≡ c.args.a.now) × (c.args.b.now ≡ c.args.b.now))
    (refl, refl))

pub returns-in-Ok-clause-unopened : goal.returns-in-Ok-clause-unopened
returns-in-Ok-clause-unopened g c =
    tabled_any c.open_session.result ((c.open_session.new.a ≡ c.args.a.now)
    × (c.open_session.new.b ≡ c.args.b.now)) c.open_session.ensures.tabled

pub returns-in-Ok-clause-tables_say : goal.returns-in-Ok-clause-tables_say
returns-in-Ok-clause-tables_say g c = λ rows tells.
    tables_good c.open_session.result rows c.in-Ok.rows (c.in-Ok.ensures.reads rows tells).0
    c.open_session.ensures.tabled

pub returns-in-Err-clause-tables_say : goal.returns-in-Err-clause-tables_say
returns-in-Err-clause-tables_say g c = λ rows tells.
    subst (λ (r : Ran). TablesSay r rows) (sym c.unread.ensures)
    (tables_faulty rows (g.T.Source.left c.read_tables.new.source) c.in-Err.fault
    (c.in-Err.ensures.reads rows tells))

pub returns-in-Err-clause-files_say : goal.returns-in-Err-clause-files_say
returns-in-Err-clause-files_say g c = λ x y x_is y_is.
    subst (λ (r : Ran). FilesSay r x y) (sym c.unread.ensures) (files_untold c.in-Err.fault x y)

pub returns-in-Err-clause-files_keep : goal.returns-in-Err-clause-files_keep
returns-in-Err-clause-files_keep g c = λ x y x_is y_is.
    subst (λ (r : Ran). SessionKeeps r g.D.Disk.images c.args.a.now c.args.b.now x y)
    (sym c.unread.ensures)
    (unread_keeps g.D.Disk.images c.args.a.now c.args.b.now x y c.in-Err.fault)
