use Rattle.std.proofs.Common.{List, Option, ℕ, refl, subst}
use Rattle.session_model.specs.Engine.{Engine, QueryGives}
use Rattle.r53_core.specs.Asking.{answer_of}
use Rattle.r53_core.specs.Stores.{StandsFor, State as Store}
use Rattle.serve_turns.proofs.Settled.{none_told, served_same, some_told}
use Rattle.serve_turns.proofs.replying.made.Goals as goal

pub returns-then-not-note-clause-some : goal.returns-then-not-note-clause-some
returns-then-not-note-clause-some c = some_told c.query.result c.query.new.reply
    (λ (a : Option (List ℕ)). (engine : Engine) → StandsFor engine c.args.store.now
    → QueryGives engine c.args.tables.now (record { peer = c.args.peer; words = c.args.words.now }) c.args.packet.now a)
    c.query.ensures.gives

pub returns-then-not-note-clause-none : goal.returns-then-not-note-clause-none
returns-then-not-note-clause-none c = none_told c.query.result c.query.new.reply
    (λ (a : Option (List ℕ)). (engine : Engine) → StandsFor engine c.args.store.now
    → QueryGives engine c.args.tables.now (record { peer = c.args.peer; words = c.args.words.now }) c.args.packet.now a)
    c.query.ensures.gives

pub returns-in-None-clause-some : goal.returns-in-None-clause-some
returns-in-None-clause-some c = some_told c.query-in-None.result c.query-in-None.new.reply
    (λ (a : Option (List ℕ)). (engine : Engine) → StandsFor engine c.args.store.now
    → QueryGives engine c.args.tables.now (record { peer = c.args.peer; words = c.args.words.now }) c.args.packet.now a)
    (subst (λ (s : Store). (engine : Engine) → StandsFor engine s
    → QueryGives engine c.args.tables.now (record { peer = c.args.peer; words = c.args.words.now }) c.args.packet.now
    (answer_of c.query-in-None.result c.query-in-None.new.reply)) c.in-None.ensures.same c.query-in-None.ensures.gives)

pub returns-in-None-clause-none : goal.returns-in-None-clause-none
returns-in-None-clause-none c = none_told c.query-in-None.result c.query-in-None.new.reply
    (λ (a : Option (List ℕ)). (engine : Engine) → StandsFor engine c.args.store.now
    → QueryGives engine c.args.tables.now (record { peer = c.args.peer; words = c.args.words.now }) c.args.packet.now a)
    (subst (λ (s : Store). (engine : Engine) → StandsFor engine s
    → QueryGives engine c.args.tables.now (record { peer = c.args.peer; words = c.args.words.now }) c.args.packet.now
    (answer_of c.query-in-None.result c.query-in-None.new.reply)) c.in-None.ensures.same c.query-in-None.ensures.gives)

pub returns-in-Some-clause-serves : goal.returns-in-Some-clause-serves
returns-in-Some-clause-serves c = λ engine serves.
    c.in-Some.ensures.serves engine (served_same engine c.args.tables.now c.args.store.now c.args.store.now c.args.replies.now
    c.note.new.self refl c.note.ensures serves)

pub returns-in-None-clause-serves : goal.returns-in-None-clause-serves
returns-in-None-clause-serves c = λ engine serves.
    served_same engine c.args.tables.now c.settled.new.store c.query-in-None.new.self c.settled.new.replies c.settled.new.replies
    c.query-in-None.ensures.same refl
    (c.in-None.ensures.serves engine (served_same engine c.args.tables.now c.args.store.now c.args.store.now c.args.replies.now
    c.note.new.self refl c.note.ensures serves))
