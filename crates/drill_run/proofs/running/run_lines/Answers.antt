use Rattle.std.proofs.Common.{sym}
use Rattle.drill_run.proofs.Steps.{drilled, none_below, torn_in_events, torn_in_setup}
use Rattle.drill_run.specs.Counting.{uncounted}
use Rattle.drill_run.proofs.running.run_lines.Goals as goal

pub run_events-requires-clause-below : goal.run_events-requires-clause-below
run_events-requires-clause-below g c = none_below 0 c.args.tally.now c.requires.none

pub returns-in-On-clause-does : goal.returns-in-On-clause-does
returns-in-On-clause-does g c = λ start stands.
    let made = c.in-On.ensures.does start stands in
    drilled c.args.events start made.0 made.1 c.run_events.result c.run_events.new.store
    c.run_events.new.tally
    (c.run_events.ensures.does (uncounted made.0.engine)
    (record { stands = made.2; counted = sym c.requires.none }))

pub returns-in-On-clause-half : goal.returns-in-On-clause-half
returns-in-On-clause-half g c = λ start stands held.
    let made = c.in-On.ensures.does start stands in
    torn_in_events g.D.Disk.images c.run_events.new.a c.run_events.new.b c.args.events start made.0
    made.1 c.run_events.result
    (c.run_events.ensures.half (uncounted made.0.engine)
    (record { stands = made.2; counted = sym c.requires.none }) (c.in-On.ensures.holds held))

pub returns-in-On-clause-holds : goal.returns-in-On-clause-holds
returns-in-On-clause-holds g c = λ held. c.run_events.ensures.holds (c.in-On.ensures.holds held)

pub returns-in-Halted-clause-half : goal.returns-in-Halted-clause-half
returns-in-Halted-clause-half g c = λ start stands held.
    torn_in_setup g.D.Disk.images c.set_up.new.a c.set_up.new.b c.args.events start
    (c.in-Halted.ensures.half start stands held)
