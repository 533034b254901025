use Rattle.std.proofs.Common.{◌∙◌, sym, ap, arith}
use Rattle.file_building.specs.Append.{MayLeave as FileMayLeave}
use Rattle.zone_journal.specs.Pairs.{Yields}
use Rattle.zone_journal.specs.declared.answers.Side.TheVariants.{A, B}
use Rattle.zone_journal.specs.Standing.{State}
use Rattle.zone_journal.specs.Appending.{MayLeave}
use Rattle.zone_journal.proofs.PairLemmas.{written_a, written_b}
use Rattle.zone_journal.proofs.Appends.{leaves_a, leaves_b, may_leave_a, may_leave_b}
use Rattle.zone_journal.proofs.Sides.{of_a, of_b}
use Rattle.zone_journal.proofs.journal.ZoneJournal.append.Goals as goal

pub returns-in-A-clause-leaves : goal.returns-in-A-clause-leaves
returns-in-A-clause-leaves g c = λ n s es x y tx ty o.
    let D = g.D.Disk in
    let by = of_a D.reading D.images g.met.D.Disk.is_image c.args.self.now c.args.a.now c.args.b.now
    c.requires x y tx ty n s es o (sym (ap (λ (v : State). v.side) c.self.view_is)
    ∙ c.in-A.is) in
    let left = c.append_to.ensures.leaves n s es x tx by.opens in
    record {
      x = left.0;
      y = y;
      a_reads = left.1;
      b_reads = ty;
      has =
          leaves_a c.append_to.result n s es c.args.entry.now left.0 y by.yields left.2;
    }

pub returns-in-A-clause-any_moment : goal.returns-in-A-clause-any_moment
returns-in-A-clause-any_moment g c = λ n s es x y tx ty o.
    let D = g.D.Disk in
    let by = of_a D.reading D.images g.met.D.Disk.is_image c.args.self.now c.args.a.now c.args.b.now
    c.requires x y tx ty n s es o (sym (ap (λ (v : State). v.side) c.self.view_is)
    ∙ c.in-A.is) in
    written_a D.images D.moment D.images_since g.met.D.Disk.only_now c.args.a.now
    c.append_to.new.active c.args.b.now c.args.b.now
    (FileMayLeave c.append_to.result n s es c.args.entry.now) (Yields A n)
    (MayLeave c.append_to.result n s es c.args.entry.now)
    (c.append_to.ensures.any_moment n s es x tx by.opens) (omega arith) (λ t f left. left) by.all
    (λ f h q r. may_leave_a c.append_to.result n s es c.args.entry.now f h r q)

pub returns-in-B-clause-leaves : goal.returns-in-B-clause-leaves
returns-in-B-clause-leaves g c = λ n s es x y tx ty o.
    let D = g.D.Disk in
    let by = of_b D.reading D.images g.met.D.Disk.is_image c.args.self.now c.args.a.now c.args.b.now
    c.requires x y tx ty n s es o (sym (ap (λ (v : State). v.side) c.self.view_is)
    ∙ c.in-B.is) in
    let left = c.append_to-in-B.ensures.leaves n s es y ty by.opens in
    record {
      x = x;
      y = left.0;
      a_reads = tx;
      b_reads = left.1;
      has =
          leaves_b c.append_to-in-B.result n s es c.args.entry.now x left.0 by.yields left.2;
    }

pub returns-in-B-clause-any_moment : goal.returns-in-B-clause-any_moment
returns-in-B-clause-any_moment g c = λ n s es x y tx ty o.
    let D = g.D.Disk in
    let by = of_b D.reading D.images g.met.D.Disk.is_image c.args.self.now c.args.a.now c.args.b.now
    c.requires x y tx ty n s es o (sym (ap (λ (v : State). v.side) c.self.view_is)
    ∙ c.in-B.is) in
    written_b D.images D.moment D.images_since g.met.D.Disk.only_now c.args.a.now c.args.a.now
    c.args.b.now c.append_to-in-B.new.active
    (FileMayLeave c.append_to-in-B.result n s es c.args.entry.now) (Yields B n)
    (MayLeave c.append_to-in-B.result n s es c.args.entry.now)
    (c.append_to-in-B.ensures.any_moment n s es y ty by.opens) (omega arith) (λ t f left. left)
    by.all
    (λ f h r q. may_leave_b c.append_to-in-B.result n s es c.args.entry.now f h r q)
