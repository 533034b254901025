use Rattle.std.proofs.Common.{◌≡◌, ◌∙◌, ◌++◌, None, sym, ap, subst, arith}
use Rattle.file_building.specs.Disk.{LeavesOnly}
use Rattle.file_building.specs.Layout.{OpensTo}
use Rattle.zone_journal.specs.declared.answers.Side.TheVariants.{A, B}
use Rattle.file_building.specs.Building.{Plan}
use Rattle.zone_journal.specs.Standing.{State}
use Rattle.zone_journal.specs.Compacting.{IsOldOrNew, YieldsOrOpens, OtherLeft, IsSince}
use Rattle.zone_journal.proofs.PairLemmas.{written_a, written_b}
use Rattle.zone_journal.proofs.Pieces.{same_plan, any_plan, either_a, either_b, left_a, left_b}
use Rattle.zone_journal.proofs.Sides.{of_a, of_b}
use Rattle.zone_journal.proofs.journal.ZoneJournal.compact_piece.Goals as goal

pub returns-in-A-clause-leaves : goal.returns-in-A-clause-leaves
returns-in-A-clause-leaves g c = λ p n s es since x y is from tx ty o.
    let D = g.D.Disk in
    let v = c.args.self.now in
    let side : v.side ≡ A = sym (ap (λ (w : State). w.side) c.self.view_is) ∙ c.in-A.is in
    let by = of_a D.reading D.images g.met.D.Disk.is_image v c.args.a.now c.args.b.now
    c.requires.stands x y tx ty n s (es ++ since) o side in
    let plan_is =
    same_plan c.in-Some.plan p (c.in-Some.ensures.value
    ∙ ap (λ (w : State). w.plan) c.self.view_is ∙ is) in
    let generation_is : n ≡ c.self.inside.generation = sym by.same
    ∙ sym (ap (λ (w : State). w.generation) c.self.view_is) in
    let given : IsSince c.self.inside.generation c.in-Some.plan x since =
    record {
      snapshot = s;
      entries = es;
      opens =
          subst (λ m. OpensTo x m s (es ++ since)) generation_is by.opens;
      place =
          ap (λ (q : Plan). q.from) plan_is ∙ from;
    } in
    let left = c.piece.ensures.left x y tx ty since given in
    let now =
    any_plan c.piece.result v c.take.new.self p since left.0
    (subst (λ (w : State × Plan). OtherLeft c.piece.result w.0 w.1 since left.0)
    (λ i. (record (c.self.view_is i) { plan = c.take.new.self }, plan_is i)) left.2) in
    record {
      x = x;
      y = left.0;
      a_reads = c.piece.ensures.rests.reads
          ∙ tx;
      b_reads = left.1;
      has =
          left_a v p n s es since x by.opens by.same side c.piece.result left.0 now;
    }

pub returns-in-A-clause-any_moment : goal.returns-in-A-clause-any_moment
returns-in-A-clause-any_moment g c = λ p n s es since x y is from tx ty o.
    let D = g.D.Disk in
    let v = c.args.self.now in
    let side : v.side ≡ A = sym (ap (λ (w : State). w.side) c.self.view_is) ∙ c.in-A.is in
    let by = of_a D.reading D.images g.met.D.Disk.is_image v c.args.a.now c.args.b.now
    c.requires.stands x y tx ty n s (es ++ since) o side in
    let plan_is =
    same_plan c.in-Some.plan p (c.in-Some.ensures.value
    ∙ ap (λ (w : State). w.plan) c.self.view_is ∙ is) in
    let generation_is : n ≡ c.self.inside.generation = sym by.same
    ∙ sym (ap (λ (w : State). w.generation) c.self.view_is) in
    let given : IsSince c.self.inside.generation c.in-Some.plan x since =
    record {
      snapshot = s;
      entries = es;
      opens =
          subst (λ m. OpensTo x m s (es ++ since)) generation_is by.opens;
      place =
          ap (λ (q : Plan). q.from) plan_is ∙ from;
    } in
    let run =
    subst (λ (w : State × Plan). LeavesOnly D.moment D.images_since c.args.b.now
    c.piece.new.other (YieldsOrOpens w.0 w.1 since))
    (λ i. (record (c.self.view_is i) { plan = None }, plan_is i))
    (c.piece.ensures.any_moment x y tx ty since given) in
    written_b D.images D.moment D.images_since g.met.D.Disk.only_now c.args.a.now c.piece.new.active
    c.args.b.now c.piece.new.other
    (YieldsOrOpens v p since) (λ f. f ≡ x) (IsOldOrNew v p n s es since) run
    (omega (arith, c.piece.ensures.rests.at_moment))
    (λ t f left. (c.piece.ensures.rests.since t f).0 left) by.only
    (λ f h r q. subst (λ l. IsOldOrNew v p n s es since l h) (sym r)
    (either_a v p n s es since x by.opens by.same side h q))

pub returns-in-B-clause-leaves : goal.returns-in-B-clause-leaves
returns-in-B-clause-leaves g c = λ p n s es since x y is from tx ty o.
    let D = g.D.Disk in
    let v = c.args.self.now in
    let side : v.side ≡ B = sym (ap (λ (w : State). w.side) c.self.view_is) ∙ c.in-B.is in
    let by = of_b D.reading D.images g.met.D.Disk.is_image v c.args.a.now c.args.b.now
    c.requires.stands x y tx ty n s (es ++ since) o side in
    let plan_is =
    same_plan c.in-Some.plan p (c.in-Some.ensures.value
    ∙ ap (λ (w : State). w.plan) c.self.view_is ∙ is) in
    let generation_is : n ≡ c.self.inside.generation = sym by.same
    ∙ sym (ap (λ (w : State). w.generation) c.self.view_is) in
    let given : IsSince c.self.inside.generation c.in-Some.plan y since =
    record {
      snapshot = s;
      entries = es;
      opens =
          subst (λ m. OpensTo y m s (es ++ since)) generation_is by.opens;
      place =
          ap (λ (q : Plan). q.from) plan_is ∙ from;
    } in
    let left = c.piece-in-B.ensures.left y x ty tx since given in
    let now =
    any_plan c.piece-in-B.result v c.take.new.self p since left.0
    (subst (λ (w : State × Plan). OtherLeft c.piece-in-B.result w.0 w.1 since left.0)
    (λ i. (record (c.self.view_is i) { plan = c.take.new.self }, plan_is i)) left.2) in
    record {
      x = left.0;
      y = y;
      a_reads = left.1;
      b_reads = c.piece-in-B.ensures.rests.reads
          ∙ ty;
      has = left_b v p n s es since y by.opens by.same side c.piece-in-B.result left.0 now;
    }

pub returns-in-B-clause-any_moment : goal.returns-in-B-clause-any_moment
returns-in-B-clause-any_moment g c = λ p n s es since x y is from tx ty o.
    let D = g.D.Disk in
    let v = c.args.self.now in
    let side : v.side ≡ B = sym (ap (λ (w : State). w.side) c.self.view_is) ∙ c.in-B.is in
    let by = of_b D.reading D.images g.met.D.Disk.is_image v c.args.a.now c.args.b.now
    c.requires.stands x y tx ty n s (es ++ since) o side in
    let plan_is =
    same_plan c.in-Some.plan p (c.in-Some.ensures.value
    ∙ ap (λ (w : State). w.plan) c.self.view_is ∙ is) in
    let generation_is : n ≡ c.self.inside.generation = sym by.same
    ∙ sym (ap (λ (w : State). w.generation) c.self.view_is) in
    let given : IsSince c.self.inside.generation c.in-Some.plan y since =
    record {
      snapshot = s;
      entries = es;
      opens =
          subst (λ m. OpensTo y m s (es ++ since)) generation_is by.opens;
      place =
          ap (λ (q : Plan). q.from) plan_is ∙ from;
    } in
    let run =
    subst (λ (w : State × Plan). LeavesOnly D.moment D.images_since c.args.a.now
    c.piece-in-B.new.other (YieldsOrOpens w.0 w.1 since))
    (λ i. (record (c.self.view_is i) { plan = None }, plan_is i))
    (c.piece-in-B.ensures.any_moment y x ty tx since given) in
    written_a D.images D.moment D.images_since g.met.D.Disk.only_now c.args.a.now
    c.piece-in-B.new.other c.args.b.now c.piece-in-B.new.active
    (YieldsOrOpens v p since) (λ f. f ≡ y) (IsOldOrNew v p n s es since) run
    (omega (arith, c.piece-in-B.ensures.rests.at_moment))
    (λ t f left. (c.piece-in-B.ensures.rests.since t f).0 left) by.only
    (λ f h q r. subst (λ l. IsOldOrNew v p n s es since f l) (sym r)
    (either_b v p n s es since y by.opens by.same side f q))
