use Rattle.std.proofs.Common.{◌≡◌, ◌∙◌, None, Some, sym, subst}
use Rattle.config_journal.proofs.Beginning.{config_still, holds_begun, no_progress}
use Rattle.config_journal.proofs.Going.{opens_here}
use Rattle.config_journal.specs.States.{State, config_of}
use Rattle.r53_state.specs.Configs.{Config}
use Rattle.file_building.specs.Building.{Plan}
use Rattle.r53_state.specs.Octets.{snapshot}
use Rattle.store_model.specs.Opening.{OpensConfig}
use Rattle.zone_journal.specs.Pairs.{EachPair}
use Rattle.zone_journal.specs.Standing.{PlanFits}
use Rattle.config_journal.proofs.journaled.ConfigJournal.compact.Goals as goal

pub progress-requires : goal.progress-requires
progress-requires g c = record {
  fits = subst (λ (s : State). (p : Plan) → s.journal.plan ≡ Some p → PlanFits s.journal p)
      (sym c.self.view_is) c.requires.stands.plan;
}

pub returns-then-generation-clause-any_moment : goal.returns-then-generation-clause-any_moment
returns-then-generation-clause-any_moment g c = opens_here g.D.Disk.reading g.D.Disk.images
    g.D.Disk.moment g.D.Disk.images_since g.D.Disk.faults c.args.self.now c.args.a.now c.args.b.now
    c.standing_opens.ensures g.met.D.Disk.only_now c.requires.stands

pub returns-in-Err-clause-any_moment : goal.returns-in-Err-clause-any_moment
returns-in-Err-clause-any_moment g c = opens_here g.D.Disk.reading g.D.Disk.images
    g.D.Disk.moment g.D.Disk.images_since g.D.Disk.faults c.args.self.now c.args.a.now c.args.b.now
    c.standing_opens.ensures g.met.D.Disk.only_now c.requires.stands

pub go_on-requires-in-Ok-clause-stands : goal.go_on-requires-in-Ok-clause-stands
go_on-requires-in-Ok-clause-stands g c =
    let none : c.args.self.now.journal.plan ≡ None
    = subst (λ (s : State). s.journal.plan ≡ None) c.self.view_is
    (no_progress c.self.inside.journal c.progress.result c.progress.ensures
    (sym c.is_some.ensures ∙ c.if-is_some.false)) in
    c.begins_in_place.ensures c.args.self.now.journal c.begin.new.self.journal
    (snapshot (config_of c.args.self.now)) c.args.a.now c.args.b.now c.requires.stands none
    c.in-Ok.ensures.short c.in-Ok.ensures.begun

pub returns-in-Ok-clause-holds : goal.returns-in-Ok-clause-holds
returns-in-Ok-clause-holds g c = λ held.
    let none : c.args.self.now.journal.plan ≡ None
    = subst (λ (s : State). s.journal.plan ≡ None) c.self.view_is
    (no_progress c.self.inside.journal c.progress.result c.progress.ensures
    (sym c.is_some.ensures ∙ c.if-is_some.false)) in
    c.go_on-in-Ok.ensures.holds
    (holds_begun c.args.self.now c.begin.new.self none c.begin.ensures.config
    c.in-Ok.ensures.begun c.begin.ensures.sound c.plan_begins.ensures g.D.Disk.reading
    g.D.Disk.images c.standing_place.ensures c.args.a.now c.args.b.now c.requires.stands held)

pub returns-in-Ok-clause-any_moment : goal.returns-in-Ok-clause-any_moment
returns-in-Ok-clause-any_moment g c = λ held.
    let none : c.args.self.now.journal.plan ≡ None
    = subst (λ (s : State). s.journal.plan ≡ None) c.self.view_is
    (no_progress c.self.inside.journal c.progress.result c.progress.ensures
    (sym c.is_some.ensures ∙ c.if-is_some.false)) in
    subst (λ (k : Config). EachPair g.D.Disk.moment g.D.Disk.images_since c.args.a.now
    c.go_on-in-Ok.new.a c.args.b.now c.go_on-in-Ok.new.b (λ x y. OpensConfig x y k))
    (config_still c.args.self.now c.begin.new.self none c.begin.ensures.config
    c.in-Ok.ensures.begun)
    (c.go_on-in-Ok.ensures.any_moment
    (holds_begun c.args.self.now c.begin.new.self none c.begin.ensures.config
    c.in-Ok.ensures.begun c.begin.ensures.sound c.plan_begins.ensures g.D.Disk.reading
    g.D.Disk.images c.standing_place.ensures c.args.a.now c.args.b.now c.requires.stands held))
