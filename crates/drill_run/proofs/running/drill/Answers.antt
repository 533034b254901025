use Rattle.std.proofs.Common.{◌∙◌}
use Rattle.drill_run.proofs.Making.{cause_later, made_left}
use Rattle.zone_journal.specs.Making.{store_over}
use Rattle.drill_run.proofs.running.drill.Goals as goal

pub returns-in-Done-clause-leaves : goal.returns-in-Done-clause-leaves
returns-in-Done-clause-leaves g c = λ x y x_is y_is.
    let gives = c.in-Done.ensures.gives x y x_is y_is in
    made_left g.D.Disk.reading g.D.Disk.images g.D.Disk.moment g.D.Disk.images_since c.args.a.now
    c.drill_over.new.a c.args.b.now c.drill_over.new.b c.args.events x y
    (g.K.Sink.held c.args.out.now) (g.K.Sink.held c.drill_over.new.out) gives.0 gives.1 c.drill_over.result
    (c.drill_over.ensures.leaves (store_over x) y gives.2
    ((c.in-Done.ensures.b_unwritten y y_is).reads ∙ y_is)
    (c.init_opens.ensures x y c.init.new.a c.init.new.b gives))

pub returns-in-Done-clause-cause : goal.returns-in-Done-clause-cause
returns-in-Done-clause-cause g c =
    cause_later c.drill_over.result (g.D.Disk.faults c.args.a.now) (g.D.Disk.faults c.init.new.a)
    (g.D.Disk.faults c.drill_over.new.a) (g.D.Disk.faults c.args.b.now)
    (g.D.Disk.faults c.init.new.b) (g.D.Disk.faults c.drill_over.new.b)
    (g.K.Sink.faults c.args.out.now) (g.K.Sink.faults c.drill_over.new.out)
    c.init.ensures.a_counts c.init.ensures.b_counts c.drill_over.ensures.cause

pub returns-in-AlreadyAStore-clause-leaves : goal.returns-in-AlreadyAStore-clause-leaves
returns-in-AlreadyAStore-clause-leaves g c = λ x y x_is y_is. (
  c.in-AlreadyAStore.ensures.gives x y x_is y_is,
  c.in-AlreadyAStore.ensures.any_moment x y x_is y_is,
  c.in-AlreadyAStore.ensures.b_unwritten y y_is,
)

pub returns-in-DiskFault-clause-leaves : goal.returns-in-DiskFault-clause-leaves
returns-in-DiskFault-clause-leaves g c = λ x y x_is y_is.
    (c.in-DiskFault.ensures.any_moment x y x_is y_is, c.in-DiskFault.ensures.b_unwritten y y_is)
