use Rattle.std.proofs.Common.{ℕ, List, [], ◌∷◌, ◌++◌, ◌∙◌, ap, subst, sym, Ok}
use Rattle.config_journal.proofs.Held.{at_each_moment, decided, one_more, taken_of}
use Rattle.config_journal.specs.States.{Ready, State, config_of}
use Rattle.r53_state.specs.States.{IsReady as IsPrepared}
use Rattle.zone_journal.specs.Pairs.{BothRead, OpensPair}
use Rattle.zone_journal.specs.Standing.{State as Journal}
use Rattle.config_journal.proofs.journaled.ConfigJournal.commit.Goals as goal

pub install-requires : goal.install-requires
install-requires g c =
    subst (λ (s : State). IsPrepared s.config c.ready.inside.prepared) (sym c.self.view_is)
    (subst (λ (r : Ready). IsPrepared c.args.self.now.config r.prepared) (sym c.ready.view_is)
    c.requires.ready.prepared)

pub returns-in-Done-clause-holds : goal.returns-in-Done-clause-holds
returns-in-Done-clause-holds g c = λ held whole.
    let new : State = record { config = c.install.new.self; journal = c.append.new.self } in
    one_more g.D.Disk.reading c.args.self.now new
    (ap (λ (j : Journal). j.generation) c.in-Done.ensures.moves
    ∙ ap (λ (s : State). s.journal.generation) c.self.view_is)
    (ap (λ (j : Journal). j.plan) c.in-Done.ensures.moves
    ∙ ap (λ (s : State). s.journal.plan) c.self.view_is)
    c.ready.inside.entry
    (taken_of c.accepted_are_taken.ensures c.args.self.now c.args.ready c.requires.ready
    c.ready.inside.entry (ap (λ (r : Ready). r.entry) c.ready.view_is) (config_of new)
    c.install.result
    (decided (record { config = c.self.inside.config; journal = c.self.inside.journal })
    c.args.self.now c.self.view_is
    (record { prepared = c.ready.inside.prepared; entry = c.ready.inside.entry }) c.args.ready
    c.ready.view_is (Ok (config_of new, c.install.result)) c.install.ensures.installed))
    c.plan_goes_on.ensures c.appends_open.ensures c.args.a.now c.append.new.a c.args.b.now
    c.append.new.b c.in-Done.ensures.leaves held

pub returns-in-Done-clause-any_moment : goal.returns-in-Done-clause-any_moment
returns-in-Done-clause-any_moment g c = λ after what decides held.
    at_each_moment g.D.Disk.moment g.D.Disk.images_since c.appends_may_open.ensures
    c.args.self.now c.ready.inside.entry after
    (taken_of c.accepted_are_taken.ensures c.args.self.now c.args.ready c.requires.ready
    c.ready.inside.entry (ap (λ (r : Ready). r.entry) c.ready.view_is) after what decides)
    c.args.a.now c.append.new.a c.args.b.now c.append.new.b c.append.result
    c.append.ensures.any_moment held

pub returns-in-Full-clause-any_moment : goal.returns-in-Full-clause-any_moment
returns-in-Full-clause-any_moment g c = λ after what decides held.
    at_each_moment g.D.Disk.moment g.D.Disk.images_since c.appends_may_open.ensures
    c.args.self.now c.ready.inside.entry after
    (taken_of c.accepted_are_taken.ensures c.args.self.now c.args.ready c.requires.ready
    c.ready.inside.entry (ap (λ (r : Ready). r.entry) c.ready.view_is) after what decides)
    c.args.a.now c.append.new.a c.args.b.now c.append.new.b c.append.result
    c.append.ensures.any_moment held

pub returns-in-DiskFault-clause-any_moment : goal.returns-in-DiskFault-clause-any_moment
returns-in-DiskFault-clause-any_moment g c = λ after what decides held.
    at_each_moment g.D.Disk.moment g.D.Disk.images_since c.appends_may_open.ensures
    c.args.self.now c.ready.inside.entry after
    (taken_of c.accepted_are_taken.ensures c.args.self.now c.args.ready c.requires.ready
    c.ready.inside.entry (ap (λ (r : Ready). r.entry) c.ready.view_is) after what decides)
    c.args.a.now c.append.new.a c.args.b.now c.append.new.b c.append.result
    c.append.ensures.any_moment held

pub returns-in-Done-clause-written : goal.returns-in-Done-clause-written
returns-in-Done-clause-written g c = λ generation s es x y a_reads b_reads opens what is.
    subst (λ (entry : List ℕ). BothRead g.D.Disk.reading c.append.new.a c.append.new.b
    (λ u v. OpensPair u v generation s (es ++ entry ∷ [])))
    (ap (λ (r : Ready). r.entry) c.ready.view_is)
    (c.in-Done.ensures.leaves generation s es x y a_reads b_reads opens)
