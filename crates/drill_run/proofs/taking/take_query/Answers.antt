use Rattle.std.proofs.Common.{arith, inl, inr, List, ℕ, Option, Some, None, refl, subst, sym, ◌+◌, ◌⊎◌, ◌≡◌}
use Rattle.drill_run.proofs.Arms.{answered_or_not}
use Rattle.drill_run.proofs.Steps.{below_more}
use Rattle.drill_run.specs.Counting.{reply_counted}
use Rattle.engine_model.specs.Engine.{QueryGives}
use Rattle.r53_core.specs.Stores.{StandsFor, State as Store}
use Rattle.drill_run.proofs.taking.take_query.Goals as goal

pub returns-in-Some-clause-does : goal.returns-in-Some-clause-does
returns-in-Some-clause-does c = λ old at.
    answered_or_not c.args.tables.now old c.args.store.now c.args.tally.now at c.args.asked.now
    (Some c.query.new.reply.bytes) c.query.new.self c.count_answer.new.tally
    (subst (λ (l : List ℕ). QueryGives old.engine c.args.tables.now
    (record { peer = c.args.asked.now.address; words = c.args.asked.now.words }) l
    (Some c.query.new.reply.bytes)) c.as_slice.ensures (c.in-Some.ensures.gives old.engine at.stands))
    (subst (λ (s : Store). StandsFor old.engine s) (sym c.in-Some.ensures.same) at.stands)
    (subst (λ (l : List ℕ). (c.count_answer.new.tally ≡ c.args.tally.now)
    ⊎ (c.count_answer.new.tally ≡ reply_counted (Some l) c.args.tally.now)) c.bytes.ensures
    c.count_answer.ensures.counted)

pub returns-in-None-clause-does : goal.returns-in-None-clause-does
returns-in-None-clause-does c = λ old at.
    answered_or_not c.args.tables.now old c.args.store.now c.args.tally.now at c.args.asked.now None
    c.query.new.self c.args.tally.now
    (subst (λ (l : List ℕ). QueryGives old.engine c.args.tables.now
    (record { peer = c.args.asked.now.address; words = c.args.asked.now.words }) l None)
    c.as_slice.ensures (c.in-None.ensures.gives old.engine at.stands))
    (subst (λ (s : Store). StandsFor old.engine s) (sym c.in-None.ensures.same) at.stands)
    (inl refl)

pub returns-in-None-clause-below : goal.returns-in-None-clause-below
returns-in-None-clause-below c =
    below_more c.args.n (c.args.n + 1) c.args.tally.now (omega arith) c.requires.below
