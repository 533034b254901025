use Rattle.std.proofs.Common.{◌≡◌, ◌∙◌, refl, subst, sym}
use Rattle.drill_run.proofs.Making.{cause_later, is_start, lines_left, not_opened, place_told, unopened_cause, unopened_unasked}
use Rattle.drill_run.specs.Leaving.{HasCause, IfUnwritten, OverLeaves}
use Rattle.drill_run.specs.declared.answers.Drilled.{Drilled}
use Rattle.r53_core.specs.Stores.{opened}
use Rattle.drill_run.proofs.running.drill_with.Goals as goal

pub returns-in-Ok-clause-leaves : goal.returns-in-Ok-clause-leaves
returns-in-Ok-clause-leaves g c = λ x y x_is y_is opens.
    let kept = c.in-Ok.store.kept in
    let holds = c.in-Ok.ensures.holds x y x_is y_is in
    lines_left g.D.Disk.images c.drill_in-drilled.new.a c.drill_in-drilled.new.b c.args.events x y
    (g.K.Sink.held c.args.out.now) (g.K.Sink.held c.drill_in-drilled.new.out) (opened kept)
    (is_start g.D.Disk.reading g.D.Disk.images c.standing_place.ensures
    c.pair_opens_to_one_config.ensures kept c.open.new.a c.open.new.b x y c.in-Ok.ensures.stands
    holds ((c.in-Ok.ensures.a_unwritten x x_is).reads ∙ x_is)
    ((c.in-Ok.ensures.b_unwritten y y_is).reads ∙ y_is) c.in-Ok.ensures.idle
    (opens x y (g.met.D.Disk.is_image c.args.a.now x x_is) (g.met.D.Disk.is_image c.args.b.now y y_is)))
    c.drill_in-drilled.result
    (c.drill_in-drilled.ensures.leaves (opened kept) c.in-Ok.ensures.opened holds)

pub returns-in-Err-clause-leaves : goal.returns-in-Err-clause-leaves
returns-in-Err-clause-leaves g c = λ x y x_is y_is opens.
    subst (λ (d : Drilled). OverLeaves d g.D.Disk.images c.open.new.a c.open.new.b c.args.events x y
    (g.K.Sink.held c.args.out.now) (g.K.Sink.held c.args.out.now)) (sym c.unopened.ensures)
    (not_opened g.D.Disk.images c.open.new.a c.open.new.b c.args.events x y
    (g.K.Sink.held c.args.out.now) (g.K.Sink.held c.args.out.now) c.no_store_or_config.ensures
    (opens x y (g.met.D.Disk.is_image c.args.a.now x x_is) (g.met.D.Disk.is_image c.args.b.now y y_is))
    (λ u v of_a of_b. opens u v ((c.in-Err.ensures.a_unwritten x x_is).leaves u of_a)
    ((c.in-Err.ensures.b_unwritten y y_is).leaves v of_b))
    c.in-Err.fault (place_told g.D.Disk.images c.open.new.a c.open.new.b c.args.events x y
    (g.K.Sink.held c.args.out.now) (g.K.Sink.held c.args.out.now) c.in-Err.fault (c.in-Err.ensures.faulty x y x_is y_is)))

pub returns-in-Err-clause-unwritten : goal.returns-in-Err-clause-unwritten
returns-in-Err-clause-unwritten g c =
    subst (λ (d : Drilled). IfUnwritten d (c.args.out.now ≡ c.args.out.now)) (sym c.unopened.ensures)
    (unopened_unasked c.in-Err.fault (c.args.out.now ≡ c.args.out.now) refl)

pub returns-in-Ok-clause-cause : goal.returns-in-Ok-clause-cause
returns-in-Ok-clause-cause g c =
    cause_later c.drill_in-drilled.result (g.D.Disk.faults c.args.a.now) (g.D.Disk.faults c.open.new.a)
    (g.D.Disk.faults c.drill_in-drilled.new.a) (g.D.Disk.faults c.args.b.now)
    (g.D.Disk.faults c.open.new.b) (g.D.Disk.faults c.drill_in-drilled.new.b)
    (g.K.Sink.faults c.args.out.now) (g.K.Sink.faults c.drill_in-drilled.new.out)
    c.open.ensures.a_counts c.open.ensures.b_counts c.drill_in-drilled.ensures.cause
