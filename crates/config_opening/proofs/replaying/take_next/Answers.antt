use Rattle.std.proofs.Common.{◌∙◌, Bool, List, ℕ, ◌+◌, Ok, ap, length, refl, sym, subst}
use Rattle.config_opening.proofs.Replayed.{faulty_by, goes_on, holds_there, refused}
use Rattle.config_journal.specs.Kept.{config_in}
use Rattle.config_journal.specs.Opening.{IsNoStore, IsRefused, AcceptsEntry}
use Rattle.zone_journal.specs.Opening.{NextGives}
use Rattle.zone_journal.specs.Pairs.{active_of}
use Rattle.config_opening.proofs.replaying.take_next.Goals as goal

pub returns-in-Err-clause-faulty : goal.returns-in-Err-clause-faulty
returns-in-Err-clause-faulty g c = λ x y a_reads b_reads r.
    faulty_by c.args.journal.now (config_in c.args.config.now) x y r Bool c.faulty_is_no_store.ensures
    c.in-Err.other c.next.new.self
    (c.in-Err.ensures.gives r.snapshot r.entries x y a_reads b_reads r.read)

pub returns-in-Ok-None-clause-holds : goal.returns-in-Ok-None-clause-holds
returns-in-Ok-None-clause-holds g c = λ x y a_reads b_reads r same.
    let its = subst (λ o. NextGives (Ok o) c.args.journal.now c.next.new.self
    (active_of c.args.journal.now.side x y) r.snapshot r.entries) c.in-Ok-None.field-0-is
    (c.in-Ok-None.ensures.gives r.snapshot r.entries x y a_reads b_reads r.read) in
    record {
      x = x;
      y = y;
      a_reads = c.next.ensures.a_rests.reads ∙ a_reads;
      b_reads = c.next.ensures.b_rests.reads ∙ b_reads;
      has = holds_there c.args.journal.now (config_in c.args.config.now) x y r
          c.deciding_opens.ensures c.requires.no_plan c.args.config.now refl c.next.new.self its.1
          its.0;
    }

pub returns-in-Ok-true-clause-replays : goal.returns-in-Ok-true-clause-replays
returns-in-Ok-true-clause-replays g c = λ x y a_reads b_reads r same.
    let its = subst (λ o. NextGives (Ok o) c.args.journal.now c.next.new.self
    (active_of c.args.journal.now.side x y) r.snapshot r.entries) c.in-Ok-Some.field-0-is
    (c.in-Ok-Some.ensures.gives r.snapshot r.entries x y a_reads b_reads r.read) in
    goes_on c.args.journal.now (config_in c.args.config.now) x y r c.one_more_makes.ensures
    c.next.new.self (c.args.journal.now.at + (5 + length c.in-Ok-Some.entry.items)) its.1
    c.in-Ok-Some.entry.items (config_in c.take.new.config) its.0
    (subst (λ (l : List ℕ). AcceptsEntry (config_in c.args.config.now) l (config_in c.take.new.config))
    c.deref.ensures.value (c.in-Ok-true.ensures.taken (ap (λ (b : Bool). Ok b) c.in-Ok-true.field-0-test)))

pub returns-in-Ok-false-clause-faulty : goal.returns-in-Ok-false-clause-faulty
returns-in-Ok-false-clause-faulty g c = λ x y a_reads b_reads r.
    let its = subst (λ o. NextGives (Ok o) c.args.journal.now c.next.new.self
    (active_of c.args.journal.now.side x y) r.snapshot r.entries) c.in-Ok-Some.field-0-is
    (c.in-Ok-Some.ensures.gives r.snapshot r.entries x y a_reads b_reads r.read) in
    subst (λ s. IsNoStore x y s c.gate.result) (sym c.side.ensures)
    (subst (λ n. IsNoStore x y c.args.journal.now.side n) (sym c.gate.ensures)
    (refused c.args.journal.now (config_in c.args.config.now) x y r c.faulty_is_no_store.ensures
    c.next.new.self c.in-Ok-Some.entry.items its.1 its.0
    (subst (λ (l : List ℕ). IsRefused (config_in c.args.config.now) l)
    c.deref.ensures.value (c.in-Ok-false.ensures.refused (ap (λ (b : Bool). Ok b) c.in-Ok-false.field-0-test)))))
