use Rattle.std.proofs.Common.{◌≡◌, ◌∙◌, ℕ, List, Err, Some, ap, false, refl, subst, sym}
use Rattle.session_loop.specs.Stores.{opened}
use Rattle.session_run.proofs.Opened.{beginning, cause_later, files_faulty, is_beginning, is_tabled, not_opened, opens_config, stands_for, unopened_cause, unopened_keeps, without_store}
use Rattle.session_run.specs.Running.{FilesSay, HasCauseOf, IfUntabled, SessionKeeps, SessionLeaves, UnlessEnded, surroundings}
use Rattle.session_run.specs.declared.ran.Ran.{Ran}
use Rattle.zone_journal.specs.Pairs.{Unwritten}
use Rattle.zone_journal.specs.declared.answers.OpenFault.{OpenFault}
use Rattle.session_run.proofs.running.open_over.Goals as goal

pub returns-in-Some-clause-leaves : goal.returns-in-Some-clause-leaves
returns-in-Some-clause-leaves g c = λ given told.
    let kept = c.in-Ok.store.kept in
    let holds = c.in-Ok.ensures.holds given.x given.y told.x_is told.y_is in (
      beginning given kept,
      is_beginning g.D.Disk.reading g.D.Disk.images c.standing_place.ensures given kept c.open.new.a
          c.open.new.b c.in-Ok.ensures.stands holds
          ((c.in-Ok.ensures.a_unwritten given.x told.x_is).reads ∙ told.x_is)
          ((c.in-Ok.ensures.b_unwritten given.y told.y_is).reads ∙ told.y_is) c.in-Ok.ensures.idle,
      c.in-Some.ensures.leaves (surroundings given c.args.rows) (beginning given kept) given.input
          given.held given.before refl
          (stands_for given kept
          (record { store = c.in-Ok.store; tables = c.args.rows; bound = false })
          (g.L.Link.coming c.args.link.now) (g.R.Rng.stream c.args.words.now)
          c.in-Ok.ensures.opened refl told.arrivals_are told.words_are)
          holds told.ports_are told.input_is told.held_is told.before_is,
    )

pub returns-in-None-clause-leaves : goal.returns-in-None-clause-leaves
returns-in-None-clause-leaves g c = λ given told.
    let unasked = c.in-None.ensures.unasked refl in
    (ap g.K.Sink.held unasked.1 ∙ told.held_is, ap g.L.Link.sent unasked.2 ∙ told.before_is)

pub returns-in-None-clause-unasked : goal.returns-in-None-clause-unasked
returns-in-None-clause-unasked g c =
    let unasked = c.in-None.ensures.unasked refl in (unasked.0, unasked.1, unasked.2, unasked.3)

pub returns-in-None-clause-a_unwritten : goal.returns-in-None-clause-a_unwritten
returns-in-None-clause-a_unwritten g c = λ x reads.
    subst (λ d. Unwritten g.D.Disk.reading g.D.Disk.images g.D.Disk.moment g.D.Disk.images_since
    c.args.a.now d) (sym (c.in-None.ensures.unasked refl).4) (c.in-Ok.ensures.a_unwritten x reads)

pub returns-in-None-clause-b_unwritten : goal.returns-in-None-clause-b_unwritten
returns-in-None-clause-b_unwritten g c = λ y reads.
    subst (λ d. Unwritten g.D.Disk.reading g.D.Disk.images g.D.Disk.moment g.D.Disk.images_since
    c.args.b.now d) (sym (c.in-None.ensures.unasked refl).5) (c.in-Ok.ensures.b_unwritten y reads)

pub returns-in-Some-clause-cause : goal.returns-in-Some-clause-cause
returns-in-Some-clause-cause g c =
    cause_later c.in-Some.how (g.S.Source.faults c.args.input.now)
    (g.S.Source.faults c.run_over.new.input) (g.D.Disk.faults c.args.a.now)
    (g.D.Disk.faults c.open.new.a) (g.D.Disk.faults c.run_over.new.a)
    (g.D.Disk.faults c.args.b.now) (g.D.Disk.faults c.open.new.b)
    (g.D.Disk.faults c.run_over.new.b) (g.L.Link.faults c.args.link.now)
    (g.L.Link.faults c.run_over.new.link) (g.K.Sink.faults c.args.out.now)
    (g.K.Sink.faults c.run_over.new.out) c.open.ensures.a_counts c.open.ensures.b_counts
    c.in-Some.ensures.cause

pub returns-in-Err-clause-leaves : goal.returns-in-Err-clause-leaves
returns-in-Err-clause-leaves g c = λ given told.
    subst (λ (r : Ran). SessionLeaves r g.D.Disk.images c.open.new.a c.open.new.b given c.args.rows
    (g.S.Source.left c.args.input.now) (g.L.Link.coming c.args.link.now)
    (g.R.Rng.stream c.args.words.now) (g.K.Sink.held c.args.out.now)
    (g.L.Link.sent c.args.link.now)) (sym c.unopened.ensures)
    (not_opened g.D.Disk.images c.open.new.a c.open.new.b given (g.S.Source.left c.args.input.now)
    (g.L.Link.coming c.args.link.now) (g.R.Rng.stream c.args.words.now) (g.K.Sink.held c.args.out.now) (g.L.Link.sent c.args.link.now) (told.held_is, told.before_is)
    c.args.rows c.in-Err.fault
    (c.in-Err.ensures.faulty given.x given.y told.x_is told.y_is))

pub returns-in-Err-clause-a_unwritten : goal.returns-in-Err-clause-a_unwritten
returns-in-Err-clause-a_unwritten g c =
    subst (λ (r : Ran). UnlessEnded r ((bytes : List ℕ) → g.D.Disk.reading c.args.a.now ≡ Some bytes
    → Unwritten g.D.Disk.reading g.D.Disk.images g.D.Disk.moment g.D.Disk.images_since
    c.args.a.now c.open.new.a)) (sym c.unopened.ensures)
    (without_store c.in-Err.fault ((bytes : List ℕ) → g.D.Disk.reading c.args.a.now ≡ Some bytes
    → Unwritten g.D.Disk.reading g.D.Disk.images g.D.Disk.moment g.D.Disk.images_since
    c.args.a.now c.open.new.a) c.in-Err.ensures.a_unwritten)

pub returns-in-Err-clause-b_unwritten : goal.returns-in-Err-clause-b_unwritten
returns-in-Err-clause-b_unwritten g c =
    subst (λ (r : Ran). UnlessEnded r ((bytes : List ℕ) → g.D.Disk.reading c.args.b.now ≡ Some bytes
    → Unwritten g.D.Disk.reading g.D.Disk.images g.D.Disk.moment g.D.Disk.images_since
    c.args.b.now c.open.new.b)) (sym c.unopened.ensures)
    (without_store c.in-Err.fault ((bytes : List ℕ) → g.D.Disk.reading c.args.b.now ≡ Some bytes
    → Unwritten g.D.Disk.reading g.D.Disk.images g.D.Disk.moment g.D.Disk.images_since
    c.args.b.now c.open.new.b) c.in-Err.ensures.b_unwritten)

pub returns-in-Err-clause-cause : goal.returns-in-Err-clause-cause
returns-in-Err-clause-cause g c =
    subst (λ (r : Ran). HasCauseOf r (g.S.Source.faults c.args.input.now)
    (g.S.Source.faults c.args.input.now) 0 0 (g.D.Disk.faults c.args.a.now)
    (g.D.Disk.faults c.open.new.a) (g.D.Disk.faults c.args.b.now) (g.D.Disk.faults c.open.new.b)
    (g.L.Link.faults c.args.link.now) (g.L.Link.faults c.args.link.now)
    (g.K.Sink.faults c.args.out.now) (g.K.Sink.faults c.args.out.now)) (sym c.unopened.ensures)
    (unopened_cause (g.S.Source.faults c.args.input.now) (g.S.Source.faults c.args.input.now) 0 0
    (g.D.Disk.faults c.args.a.now) (g.D.Disk.faults c.open.new.a) (g.D.Disk.faults c.args.b.now)
    (g.D.Disk.faults c.open.new.b) (g.L.Link.faults c.args.link.now)
    (g.L.Link.faults c.args.link.now) (g.K.Sink.faults c.args.out.now)
    (g.K.Sink.faults c.args.out.now) c.in-Err.fault
    (λ is. c.in-Err.ensures.failed (ap (λ (f : OpenFault). Err f) is)))

pub returns-in-Err-clause-unasked : goal.returns-in-Err-clause-unasked
returns-in-Err-clause-unasked g c =
    subst (λ (r : Ran). UnlessEnded r ((c.args.input.now ≡ c.args.input.now)
    × (c.args.out.now ≡ c.args.out.now) × (c.args.link.now ≡ c.args.link.now)
    × (c.args.words.now ≡ c.args.words.now))) (sym c.unopened.ensures)
    (without_store c.in-Err.fault ((c.args.input.now ≡ c.args.input.now)
    × (c.args.out.now ≡ c.args.out.now) × (c.args.link.now ≡ c.args.link.now)
    × (c.args.words.now ≡ c.args.words.now)) (refl, refl, refl, refl))

pub returns-in-Err-clause-tabled : goal.returns-in-Err-clause-tabled
returns-in-Err-clause-tabled g c =
    subst (λ (r : Ran). IfUntabled r ⊥) (sym c.unopened.ensures) (is_tabled c.in-Err.fault ⊥)

pub returns-in-Some-clause-files_say : goal.returns-in-Some-clause-files_say
returns-in-Some-clause-files_say g c = λ x y x_is y_is. (
  _,
  opens_config g.D.Disk.reading c.in-Ok.store.kept c.open.new.a c.open.new.b x y
      (c.in-Ok.ensures.holds x y x_is y_is)
      ((c.in-Ok.ensures.a_unwritten x x_is).reads ∙ x_is)
      ((c.in-Ok.ensures.b_unwritten y y_is).reads ∙ y_is),
)

pub returns-in-Err-clause-files_say : goal.returns-in-Err-clause-files_say
returns-in-Err-clause-files_say g c = λ x y x_is y_is.
    subst (λ (r : Ran). FilesSay r x y) (sym c.unopened.ensures)
    (files_faulty c.in-Err.fault x y (c.in-Err.ensures.faulty x y x_is y_is))

pub returns-in-Some-clause-files_keep : goal.returns-in-Some-clause-files_keep
returns-in-Some-clause-files_keep g c = λ x y x_is y_is.
    let kept = c.in-Ok.store.kept in
    let holds = c.in-Ok.ensures.holds x y x_is y_is in (
      _,
      opens_config g.D.Disk.reading kept c.open.new.a c.open.new.b x y holds
          ((c.in-Ok.ensures.a_unwritten x x_is).reads ∙ x_is)
          ((c.in-Ok.ensures.b_unwritten y y_is).reads ∙ y_is),
      c.in-Some.ensures.files (opened kept) c.in-Ok.ensures.opened holds,
    )

pub returns-in-Err-clause-files_keep : goal.returns-in-Err-clause-files_keep
returns-in-Err-clause-files_keep g c = λ x y x_is y_is.
    subst (λ (r : Ran). SessionKeeps r g.D.Disk.images c.open.new.a c.open.new.b x y)
    (sym c.unopened.ensures)
    (unopened_keeps g.D.Disk.images c.open.new.a c.open.new.b x y c.in-Err.fault)
