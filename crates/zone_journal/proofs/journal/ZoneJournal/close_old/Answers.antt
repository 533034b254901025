use Rattle.std.proofs.Common.{◌≡◌, Some, inl, sym, subst, rules}
use Rattle.file_building.proofs.Moments.{weaker}
use Rattle.file_building.proofs.AppendLemmas.{read_now}
use Rattle.zone_journal.specs.Standing.{State, StandsWith}
use Rattle.zone_journal.specs.Compacting.{with_plan, YieldsOrOpens}
use Rattle.zone_journal.proofs.Stores.{closed_shut}
use Rattle.zone_journal.proofs.Pieces.{closed_stands, shut_yields, whole_or_shut_yields}
use Rattle.zone_journal.proofs.journal.ZoneJournal.close_old.Goals as goal

pub returns-in_default-clause-any_moment : goal.returns-in_default-clause-any_moment
returns-in_default-clause-any_moment g c = λ y told since.
    let D = g.D.Disk in
    let v = c.args.self.now in
    weaker D.moment D.images_since _ _ _ (YieldsOrOpens v c.args.plan since)
    (c.close_file.ensures.any_moment y told)
    (λ f left.
    inl (whole_or_shut_yields v.side v.generation y f
    (c.requires.stands.yields y told y (g.met.D.Disk.is_image c.args.other.now y told)) left))

pub returns-in_default-clause-left : goal.returns-in_default-clause-left
returns-in_default-clause-left g c = λ y told since.
    let D = g.D.Disk in
    let v = c.args.self.now in
    read_now D.reading D.images D.moment D.images_since g.met.D.Disk.is_image
    g.met.D.Disk.counts_now c.args.other.now _ (YieldsOrOpens v c.args.plan since)
    (weaker D.moment D.images_since _ _ _ (YieldsOrOpens v c.args.plan since)
    (c.close_file.ensures.any_moment y told)
    (λ f left.
    inl (whole_or_shut_yields v.side v.generation y f
    (c.requires.stands.yields y told y (g.met.D.Disk.is_image c.args.other.now y told)) left)))
    (c.in_default.ensures.closed y told)

pub returns-clause-any_moment : goal.returns-clause-any_moment
returns-clause-any_moment g c = λ y told since.
    let D = g.D.Disk in
    let v = c.args.self.now in
    weaker D.moment D.images_since _ _ _ (YieldsOrOpens v c.args.plan since)
    (c.close_file.ensures.any_moment y told)
    (λ f left.
    inl (whole_or_shut_yields v.side v.generation y f
    (c.requires.stands.yields y told y (g.met.D.Disk.is_image c.args.other.now y told)) left))

pub returns-clause-left : goal.returns-clause-left
returns-clause-left g c = λ y told since. (
  _,
  (c.in-Whole.ensures.closed y told).0,
  shut_yields c.args.self.now.side c.args.self.now.generation _ (closed_shut y),
)

pub returns-clause-stands : goal.returns-clause-stands
returns-clause-stands g c =
    let D = g.D.Disk in
    let v = c.args.self.now in
    let new : State =
    record {
      side = c.self.inside.side;
      generation = c.self.inside.generation;
      at =
          c.self.inside.journal;
      plan = Some c.moved-plan.result;
    } in
    let moved : c.moved-plan.result ≡ record c.args.plan { next = 1 } = search rules in
    let is : new ≡ with_plan v (record c.args.plan { next = 1 }) =
    λ i. record (c.self.view_is i) { plan = Some (moved i) } in
    subst (λ s. StandsWith D.reading D.images s c.args.active.now c.close_file.new.disk) (sym is)
    (closed_stands D.reading D.images v c.args.plan c.args.active.now c.args.other.now
    c.close_file.new.disk c.requires.stands c.requires.first c.close_file.ensures.untold
    (λ y told. c.in-Whole.ensures.closed y told))
