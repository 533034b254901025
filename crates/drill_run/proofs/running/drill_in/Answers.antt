use Rattle.std.proofs.Common.{◌≡◌, ap, subst, sym}
use Rattle.drill_run.proofs.Making.{same_cause, summed, written_unasked}
use Rattle.drill_run.specs.Leaving.{IfUnwritten, LinesLeave}
use Rattle.drill_run.specs.declared.answers.Drilled.{Drilled}
use Rattle.engine_model.specs.Engine.{Journal}
use Rattle.session_server.proofs.Files.{are_files}
use Rattle.drill_run.proofs.running.drill_in.Goals as goal

pub returns-in-On-clause-leaves : goal.returns-in-On-clause-leaves
returns-in-On-clause-leaves g c = λ start stands files.
    let end = c.in-On.ensures.does start stands in
    let written = c.sum_up.ensures.writes end.0 end.2 in
    subst (λ (d : Drilled). LinesLeave d g.D.Disk.images c.run_lines.new.a c.run_lines.new.b
    c.args.events start (g.K.Sink.held c.args.out.now) (g.K.Sink.held c.sum_up.new.out)) (sym written.1)
    (summed g.D.Disk.images c.run_lines.new.a c.run_lines.new.b c.args.events start
    (g.K.Sink.held c.args.out.now) (g.K.Sink.held c.sum_up.new.out) written.0 (
      end.0,
      end.1,
      are_files g.D.Disk.reading g.D.Disk.images c.standing_opens.ensures c.standing_shapes.ensures
          c.run_lines.new.store.kept c.run_lines.new.a c.run_lines.new.b c.in-On.ensures.stands
          (c.in-On.ensures.holds files) end.0.engine end.2.stands.config
          (ap (λ (j : Journal). j.side) end.2.stands.journal)
          (ap (λ (j : Journal). j.generation) end.2.stands.journal)
          (ap (λ (j : Journal). j.length) end.2.stands.journal),
      written.2,
    ))

pub returns-in-On-clause-unwritten : goal.returns-in-On-clause-unwritten
returns-in-On-clause-unwritten g c =
    let told = c.sum_up.ensures.told in
    subst (λ (d : Drilled). IfUnwritten d (c.sum_up.new.out ≡ c.args.out.now)) (sym told.1)
    (written_unasked told.0 (c.sum_up.new.out ≡ c.args.out.now))

pub returns-in-On-clause-cause : goal.returns-in-On-clause-cause
returns-in-On-clause-cause g c =
    let told = c.sum_up.ensures.told in
    same_cause told.0 c.sum_up.result told.1 (g.D.Disk.faults c.args.a.now)
    (g.D.Disk.faults c.run_lines.new.a) (g.D.Disk.faults c.args.b.now)
    (g.D.Disk.faults c.run_lines.new.b) (g.K.Sink.faults c.args.out.now)
    (g.K.Sink.faults c.sum_up.new.out) c.sum_up.ensures.cause

pub returns-in-Halted-clause-leaves : goal.returns-in-Halted-clause-leaves
returns-in-Halted-clause-leaves g c = λ start stands files.
    c.in-Halted.ensures.half start stands files
