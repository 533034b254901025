use Rattle.std.proofs.Common.{◌∙◌, ℕ, arith, refl, subst, sym}
use Rattle.drill_run.proofs.Steps.{none_ran, none_below}
use Rattle.drill_run.specs.Counting.{uncounted}
use Rattle.drill_run.specs.Drills.{EventLinesRun, SetsUp}
use Rattle.drill_run.proofs.events.run_events.Goals as goal

pub loop-k-init : goal.loop-k-init
loop-k-init g c = record {
  does = λ start at. (start, none_ran start, at);
  below = c.requires.below;
  room = refl;
  stands = c.requires.stands;
  holds = λ held. held;
  a_counts = omega arith;
  b_counts = omega arith;
}

pub loop-k-preserved : goal.loop-k-preserved
loop-k-preserved g c = record {
  does = λ start at.
      let so_far = c.loop-k.invariant.does start at in
      c.in-On.ensures.does start so_far.0 so_far.1 so_far.2;
  below = c.take_event.ensures.below;
  room = c.take_event.ensures.room ∙ c.loop-k.invariant.room;
  stands = c.in-On.ensures.stands;
  holds = λ held. c.in-On.ensures.holds (c.loop-k.invariant.holds held);
  a_counts = omega (arith, c.loop-k.invariant.a_counts, c.take_event.ensures.a_counts);
  b_counts = omega (arith, c.loop-k.invariant.b_counts, c.take_event.ensures.b_counts);
}

pub returns-in-Halted-clause-half : goal.returns-in-Halted-clause-half
returns-in-Halted-clause-half g c = λ start at held.
    let so_far = c.loop-k.invariant.does start at in (
      c.loop-k.k,
      c.loop-k-test.true,
      c.in-Halted.ensures.half start so_far.0 so_far.1 so_far.2 (c.loop-k.invariant.holds held),
    )

pub returns-clause-does : goal.returns-clause-does
returns-clause-does g c = λ start at.
    let so_far = c.loop-k.invariant.does start at in (
      so_far.0,
      subst (λ (n : ℕ). EventLinesRun n start so_far.0)
          (omega (arith, c.loop-k-test.false, c.loop-k.auto.k-end)) so_far.1,
      so_far.2,
    )
