use Rattle.std.proofs.Common.{◌∙◌, ℕ, arith, refl, subst, sym}
use Rattle.drill_run.proofs.Steps.{none_set_up, none_below}
use Rattle.drill_run.specs.Counting.{uncounted}
use Rattle.drill_run.specs.Drills.{EventLinesRun, SetsUp}
use Rattle.drill_run.proofs.events.set_up.Goals as goal

pub loop-i-init : goal.loop-i-init
loop-i-init g c = record {
  does = λ start stands. (
    uncounted start,
    none_set_up (uncounted start),
    record { stands = stands; counted = sym c.new-tally.ensures },
  );
  below = none_below 0 c.new-tally.result c.new-tally.ensures;
  room = refl;
  stands = c.requires.stands;
  holds = λ held. held;
  a_counts = omega arith;
  b_counts = omega arith;
}

pub loop-i-preserved : goal.loop-i-preserved
loop-i-preserved g c = record {
  does = λ start at.
      let so_far = c.loop-i.invariant.does start at in
      c.in-On.ensures.does start so_far.0 so_far.1 so_far.2;
  below = c.take_setup.ensures.below;
  room = c.take_setup.ensures.room ∙ c.loop-i.invariant.room;
  stands = c.in-On.ensures.stands;
  holds = λ held. c.in-On.ensures.holds (c.loop-i.invariant.holds held);
  a_counts = omega (arith, c.loop-i.invariant.a_counts, c.take_setup.ensures.a_counts);
  b_counts = omega (arith, c.loop-i.invariant.b_counts, c.take_setup.ensures.b_counts);
}

pub returns-in-Halted-clause-half : goal.returns-in-Halted-clause-half
returns-in-Halted-clause-half g c = λ start at held.
    let so_far = c.loop-i.invariant.does start at in
    c.in-Halted.ensures.half start so_far.0 so_far.1 so_far.2 (c.loop-i.invariant.holds held)

pub returns-clause-does : goal.returns-clause-does
returns-clause-does g c = λ start at.
    let so_far = c.loop-i.invariant.does start at in (
      so_far.0,
      subst (λ (n : ℕ). SetsUp n (uncounted start) so_far.0)
          (omega (arith, c.loop-i-test.false, c.loop-i.auto.i-end)) so_far.1,
      so_far.2.stands,
    )
