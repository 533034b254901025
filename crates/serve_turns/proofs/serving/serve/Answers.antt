use Rattle.std.proofs.Common.{◌∙◌, arith, refl}
use Rattle.serve_turns.proofs.Going.{joined, stays}
use Rattle.serve_turns.proofs.Turns.{all_taken, at_close, at_fault, at_start, goes_on, none_within}
use Rattle.serve_turns.proofs.Turns.{leave_less, weaker}
use Rattle.r53_core.specs.Stores.{StandsFor}
use Rattle.serve_turns.specs.Settled.{Serves}
use Rattle.serve_turns.specs.Turning.{first}
use Rattle.serve_turns.specs.declared.serving.TurnsTaken.TheVariants as answer
use Rattle.session_model.specs.Serving.{none}
use Rattle.serve_turns.proofs.serving.serve.Goals as goal

pub loop-turns-init : goal.loop-turns-init
loop-turns-init g c = record {
  within = none_within c.args.n c.no_turns-turns.result c.no_turns-turns.ensures;
  packet = refl;
  room = refl;
  reports = stays c.args.store.now c.args.store.now refl;
  kept = refl;
  ports = refl;
  counts = omega arith;
  so_far = at_start c.args.tables.now c.args.store.now (g.R.Rng.stream c.args.words.now)
      (g.L.Link.coming c.args.link.now) (g.L.Link.sent c.args.link.now) c.no_turns-turns.result
      c.no_turns-turns.ensures (λ engine. Serves engine c.args.tables.now c.args.store.now c.clear.new.self)
      (λ engine stands. record { stands = stands; settled = λ kept keeps. absurd (c.clear.ensures kept keeps) });
}

pub loop-turns-preserved : goal.loop-turns-preserved
loop-turns-preserved g c = record {
  within = weaker c.args.n c.take_turn.new.turns c.in-Taken.ensures.counted.1
      (omega (arith, c.in-Taken.ensures.counted.0, c.loop-turns-test.true));
  packet = c.in-Taken.ensures.packet ∙ c.loop-turns.invariant.packet;
  room = c.in-Taken.ensures.room ∙ c.loop-turns.invariant.room;
  reports = joined c.args.store.now c.loop-turns.store c.take_turn.new.store
      c.loop-turns.invariant.reports c.in-Taken.ensures.reports;
  kept = c.in-Taken.ensures.kept ∙ c.loop-turns.invariant.kept;
  ports = c.in-Taken.ensures.ports ∙ c.loop-turns.invariant.ports;
  counts = omega (arith, c.in-Taken.ensures.counts, c.loop-turns.invariant.counts);
  so_far = goes_on c.args.tables.now c.args.store.now
      (g.R.Rng.stream c.args.words.now) (g.L.Link.coming c.args.link.now)
      (g.L.Link.sent c.args.link.now)
      (λ engine. Serves engine c.args.tables.now c.loop-turns.store c.loop-turns.replies)
      (λ engine. Serves engine c.args.tables.now c.take_turn.new.store c.take_turn.new.replies)
      (record {
        words = g.R.Rng.stream c.loop-turns.words;
        turns = c.loop-turns.turns;
        coming = g.L.Link.coming c.loop-turns.link;
        sent = g.L.Link.sent c.loop-turns.link;
      })
      (record {
        words = g.R.Rng.stream c.take_turn.new.words;
        turns = c.take_turn.new.turns;
        coming = g.L.Link.coming c.take_turn.new.link;
        sent = g.L.Link.sent c.take_turn.new.link;
      })
      c.loop-turns.invariant.so_far c.in-Taken.ensures.counted c.in-Taken.ensures.leaves;
}

pub returns-in-Closed-clause-leaves : goal.returns-in-Closed-clause-leaves
returns-in-Closed-clause-leaves g c = λ engine arrivals before stands comes was.
    leave_less (answer.Took c.take_turn.new.turns) c.args.tables.now before c.args.n
    (first engine (g.R.Rng.stream c.args.words.now)) arrivals
    (λ after. Serves after c.args.tables.now c.take_turn.new.store c.take_turn.new.replies)
    (λ after. StandsFor after c.take_turn.new.store)
    (record {
      words = g.R.Rng.stream c.take_turn.new.words;
      turns = none;
      coming = g.L.Link.coming c.take_turn.new.link;
      sent = g.L.Link.sent c.take_turn.new.link;
    })
    (λ after its. its.stands)
    (at_close c.args.tables.now c.args.store.now
    (g.R.Rng.stream c.args.words.now) (g.L.Link.coming c.args.link.now)
    (g.L.Link.sent c.args.link.now)
    c.args.n (λ engine. Serves engine c.args.tables.now c.loop-turns.store c.loop-turns.replies)
    (λ engine. Serves engine c.args.tables.now c.take_turn.new.store c.take_turn.new.replies)
    (record {
      words = g.R.Rng.stream c.loop-turns.words;
      turns = c.loop-turns.turns;
      coming = g.L.Link.coming c.loop-turns.link;
      sent = g.L.Link.sent c.loop-turns.link;
    })
    (record {
      words = g.R.Rng.stream c.take_turn.new.words;
      turns = c.take_turn.new.turns;
      coming = g.L.Link.coming c.take_turn.new.link;
      sent = g.L.Link.sent c.take_turn.new.link;
    })
    c.loop-turns.invariant.so_far c.loop-turns.invariant.within.turns
    c.in-Closed.ensures.counted c.in-Closed.ensures.leaves engine arrivals before stands comes was)

pub returns-in-Failed-clause-leaves : goal.returns-in-Failed-clause-leaves
returns-in-Failed-clause-leaves g c = λ engine arrivals before stands comes was.
    leave_less answer.Failed c.args.tables.now before c.args.n
    (first engine (g.R.Rng.stream c.args.words.now)) arrivals
    (λ after. Serves after c.args.tables.now c.take_turn.new.store c.take_turn.new.replies)
    (λ after. StandsFor after c.take_turn.new.store)
    (record {
      words = g.R.Rng.stream c.take_turn.new.words;
      turns = none;
      coming = g.L.Link.coming c.take_turn.new.link;
      sent = g.L.Link.sent c.take_turn.new.link;
    })
    (λ after its. its.stands)
    (at_fault c.args.tables.now c.args.store.now
    (g.R.Rng.stream c.args.words.now) (g.L.Link.coming c.args.link.now)
    (g.L.Link.sent c.args.link.now)
    c.args.n (λ engine. Serves engine c.args.tables.now c.loop-turns.store c.loop-turns.replies)
    (λ engine. Serves engine c.args.tables.now c.take_turn.new.store c.take_turn.new.replies)
    (record {
      words = g.R.Rng.stream c.loop-turns.words;
      turns = c.loop-turns.turns;
      coming = g.L.Link.coming c.loop-turns.link;
      sent = g.L.Link.sent c.loop-turns.link;
    })
    (record {
      words = g.R.Rng.stream c.take_turn.new.words;
      turns = c.take_turn.new.turns;
      coming = g.L.Link.coming c.take_turn.new.link;
      sent = g.L.Link.sent c.take_turn.new.link;
    })
    c.loop-turns.invariant.so_far c.loop-turns-test.true c.in-Failed.ensures.leaves engine arrivals before stands comes was)

pub returns-clause-leaves : goal.returns-clause-leaves
returns-clause-leaves g c = λ engine arrivals before stands comes was.
    leave_less (answer.Took c.loop-turns.turns) c.args.tables.now before c.args.n
    (first engine (g.R.Rng.stream c.args.words.now)) arrivals
    (λ after. Serves after c.args.tables.now c.loop-turns.store c.loop-turns.replies)
    (λ after. StandsFor after c.loop-turns.store)
    (record {
      words = g.R.Rng.stream c.loop-turns.words;
      turns = none;
      coming = g.L.Link.coming c.loop-turns.link;
      sent = g.L.Link.sent c.loop-turns.link;
    })
    (λ after its. its.stands)
    (all_taken c.args.tables.now c.args.store.now
    (g.R.Rng.stream c.args.words.now) (g.L.Link.coming c.args.link.now)
    (g.L.Link.sent c.args.link.now)
    c.args.n (λ engine. Serves engine c.args.tables.now c.loop-turns.store c.loop-turns.replies)
    (λ engine. Serves engine c.args.tables.now c.loop-turns.store c.loop-turns.replies)
    (record {
      words = g.R.Rng.stream c.loop-turns.words;
      turns = c.loop-turns.turns;
      coming = g.L.Link.coming c.loop-turns.link;
      sent = g.L.Link.sent c.loop-turns.link;
    })
    (record {
      words = g.R.Rng.stream c.loop-turns.words;
      turns = c.loop-turns.turns;
      coming = g.L.Link.coming c.loop-turns.link;
      sent = g.L.Link.sent c.loop-turns.link;
    })
    c.loop-turns.invariant.so_far
    (omega (arith, c.loop-turns.invariant.within.turns, c.loop-turns-test.false)) engine arrivals before stands comes was)

pub returns-in-Closed-clause-reports : goal.returns-in-Closed-clause-reports
returns-in-Closed-clause-reports g c = joined c.args.store.now c.loop-turns.store
    c.take_turn.new.store c.loop-turns.invariant.reports c.in-Closed.ensures.reports

pub returns-in-Failed-clause-reports : goal.returns-in-Failed-clause-reports
returns-in-Failed-clause-reports g c = joined c.args.store.now c.loop-turns.store
    c.take_turn.new.store c.loop-turns.invariant.reports c.in-Failed.ensures.reports
