use Rattle.std.proofs.Common.{◌≡◌, ◌∙◌, ℕ, List, [], ◌∷◌, ◌++◌, Err, Ok, Some, ap, inr, refl, subst, sym}
use Rattle.sound_configs.specs.OctetsOfCommandOctets.{command_octets}
use Rattle.sound_configs.specs.CommandRecord.{Command}
use Rattle.r53_core.proofs.Accepted.{accepted}
use Rattle.config_opening.specs.Holding.{Holds}
use Rattle.config_opening.specs.States.{State as Kept, config_of}
use Rattle.sound_configs.specs.Applying.{Applies, Decides}
use Rattle.sound_configs.specs.Configs.{Config}
use Rattle.sound_configs.specs.RefusalRecord.{Refusal}
use Rattle.sound_configs.specs.RefusalRecord.TheVariants as refusal
use Rattle.file_building.specs.Building.{Plan}
use Rattle.r53_core.proofs.Commanding.{made, not_made, same_refusal}
use Rattle.r53_core.proofs.Refused.{no_fault}
use Rattle.r53_core.proofs.Staying.{read_on}
use Rattle.r53_core.specs.Stores.{StandsFor, State}
use Rattle.config_opening.specs.Kept.{IsAccepted}
use Rattle.config_opening.specs.Leaving.{OpensEither}
use Rattle.zone_journal.specs.Pairs.{EachPair, BothRead, OpensPair}
use Rattle.zone_journal.specs.Standing.{PlanFits, State as Journal}
use Rattle.r53_core.proofs.store.Store.command.Goals as goal

pub returns-in-Err-clause-holds : goal.returns-in-Err-clause-holds
returns-in-Err-clause-holds g c = λ held whole.
    read_on g.D.Disk.reading c.args.a.now c.args.b.now c.self.inside.kept c.args.self.now.kept
    c.prepare.new.self (ap (λ (s : State). s.kept) c.self.view_is) c.prepare.ensures.stays held

pub returns-in-Err-clause-failed : goal.returns-in-Err-clause-failed
returns-in-Err-clause-failed g c = λ e.
    absurd (no_fault (config_of c.self.inside.kept) c.args.command
    (subst (λ (why : Refusal). Applies (config_of c.self.inside.kept) c.args.command (Err why))
    (same_refusal c.in-Err.why refusal.DiskFault e) c.in-Err.ensures.refused))

pub returns-in_default-clause-holds : goal.returns-in_default-clause-holds
returns-in_default-clause-holds g c = λ held whole.
    read_on g.D.Disk.reading c.args.a.now c.args.b.now c.self.inside.kept c.args.self.now.kept
    c.prepare.new.self (ap (λ (s : State). s.kept) c.self.view_is) c.prepare.ensures.stays held

pub returns-in-Ok-commit-clause-gives : goal.returns-in-Ok-commit-clause-gives
returns-in-Ok-commit-clause-gives g c = λ engine stands.
    made engine c.self.inside.kept c.prepare.new.self c.self.inside.index c.reserve.new.self
    (subst (λ (s : State). StandsFor engine s) (sym c.self.view_is) stands) c.prepare.ensures.stays
    c.reserve.ensures.stands c.args.command c.in-Ok.ready c.in-Ok.ensures.ready
    c.in-Ok.ensures.command c.in-Ok-commit.made c.commit.new.self c.follow.new.self
    c.in-Ok-commit.ensures.gives c.follow.ensures.kept
    (subst (λ (j : Journal). (p : Plan) → j.plan ≡ Some p → PlanFits j p)
    (sym (c.prepare.ensures.stays.journal ∙ ap (λ (s : State). s.kept.journal) c.self.view_is))
    c.requires.stands.plan)
    c.checks_are_later.ensures c.is_on_collections-collections.result
    c.is_on_collections-collections.ensures.0 c.follow.ensures.follows

pub returns-in-Ok-commit-clause-holds : goal.returns-in-Ok-commit-clause-holds
returns-in-Ok-commit-clause-holds g c = λ held whole.
    subst (λ (k : Kept). BothRead g.D.Disk.reading c.commit.new.a c.commit.new.b (Holds k))
    (sym c.follow.ensures.kept)
    (c.in-Ok-commit.ensures.holds (read_on g.D.Disk.reading c.args.a.now c.args.b.now
    c.self.inside.kept c.args.self.now.kept c.prepare.new.self
    (ap (λ (s : State). s.kept) c.self.view_is) c.prepare.ensures.stays held) whole)

pub returns-in-Ok-commit-clause-any_moment : goal.returns-in-Ok-commit-clause-any_moment
returns-in-Ok-commit-clause-any_moment g c = λ after what decides held.
    let same = c.prepare.ensures.stays.config
    ∙ ap (λ (s : State). config_of s.kept) c.self.view_is in
    inr (subst (λ (before : Config). EachPair g.D.Disk.moment g.D.Disk.images_since c.args.a.now
    c.commit.new.a c.args.b.now c.commit.new.b (OpensEither before after)) same
    (c.commit.ensures.any_moment after what
    (subst (λ (given : Command). Decides (config_of c.prepare.new.self) given (Ok (after, what)))
    (sym c.in-Ok.ensures.command)
    (subst (λ (before : Config). Decides before c.args.command (Ok (after, what))) (sym same)
    decides))
    (read_on g.D.Disk.reading c.args.a.now c.args.b.now c.self.inside.kept c.args.self.now.kept
    c.prepare.new.self (ap (λ (s : State). s.kept) c.self.view_is) c.prepare.ensures.stays held)))

pub returns-in-Err-commit-clause-gives : goal.returns-in-Err-commit-clause-gives
returns-in-Err-commit-clause-gives g c = λ engine stands.
    not_made engine c.self.inside.kept c.prepare.new.self c.self.inside.index c.reserve.new.self
    (subst (λ (s : State). StandsFor engine s) (sym c.self.view_is) stands) c.prepare.ensures.stays
    c.reserve.ensures.stands c.args.command c.in-Ok.ready c.in-Ok.ensures.ready
    c.in-Ok.ensures.command c.in-Err-commit.why c.commit.new.self c.in-Err-commit.ensures.gives

pub returns-in-Err-commit-clause-holds : goal.returns-in-Err-commit-clause-holds
returns-in-Err-commit-clause-holds g c = λ held whole.
    c.in-Err-commit.ensures.holds (read_on g.D.Disk.reading c.args.a.now c.args.b.now
    c.self.inside.kept c.args.self.now.kept c.prepare.new.self
    (ap (λ (s : State). s.kept) c.self.view_is) c.prepare.ensures.stays held) whole

pub returns-in-Err-commit-clause-any_moment : goal.returns-in-Err-commit-clause-any_moment
returns-in-Err-commit-clause-any_moment g c = λ after what decides held.
    let same = c.prepare.ensures.stays.config
    ∙ ap (λ (s : State). config_of s.kept) c.self.view_is in
    inr (subst (λ (before : Config). EachPair g.D.Disk.moment g.D.Disk.images_since c.args.a.now
    c.commit.new.a c.args.b.now c.commit.new.b (OpensEither before after)) same
    (c.commit.ensures.any_moment after what
    (subst (λ (given : Command). Decides (config_of c.prepare.new.self) given (Ok (after, what)))
    (sym c.in-Ok.ensures.command)
    (subst (λ (before : Config). Decides before c.args.command (Ok (after, what))) (sym same)
    decides))
    (read_on g.D.Disk.reading c.args.a.now c.args.b.now c.self.inside.kept c.args.self.now.kept
    c.prepare.new.self (ap (λ (s : State). s.kept) c.self.view_is) c.prepare.ensures.stays held)))

pub returns-in-Err-clause-faulted : goal.returns-in-Err-clause-faulted
returns-in-Err-clause-faulted g c = λ e.
    absurd (no_fault (config_of c.self.inside.kept) c.args.command
    (subst (λ (why : Refusal). Applies (config_of c.self.inside.kept) c.args.command (Err why))
    (same_refusal c.in-Err.why refusal.DiskFault e) c.in-Err.ensures.refused))

pub returns-in-Err-commit-clause-faulted : goal.returns-in-Err-commit-clause-faulted
returns-in-Err-commit-clause-faulted g c = λ e.
    subst (λ (before : Config). IsAccepted before c.args.command)
    (c.prepare.ensures.stays.config ∙ ap (λ (s : State). config_of s.kept) c.self.view_is)
    (subst (λ (given : Command). IsAccepted (config_of c.prepare.new.self) given)
    c.in-Ok.ensures.command
    (accepted c.prepare.new.self.config c.in-Ok.ready.prepared c.in-Ok.ensures.ready.prepared))

pub returns-in-Ok-commit-clause-written : goal.returns-in-Ok-commit-clause-written
returns-in-Ok-commit-clause-written g c = λ generation s es x y a_reads b_reads opens what is.
    subst (λ (entry : List ℕ). BothRead g.D.Disk.reading c.commit.new.a c.commit.new.b
    (λ u v. OpensPair u v generation s (es ++ entry ∷ [])))
    (c.in-Ok.ensures.ready.entry ∙ ap command_octets c.in-Ok.ensures.command)
    (c.in-Ok-commit.ensures.written generation s es x y a_reads b_reads opens
    c.in-Ok-commit.made refl)
