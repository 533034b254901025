use Rattle.drill_run.proofs.Steps.{run_next, torn_behind, torn_first}
use Rattle.drill_run.proofs.events.take_event.Goals as goal

pub returns-in-On-clause-does : goal.returns-in-On-clause-does
returns-in-On-clause-does g c = λ start old before at.
    let middle = c.in-On.ensures.does old at in
    run_next c.args.k start old before middle.0 middle.1 c.take_behind.result c.take_behind.new.store
    c.take_behind.new.tally (c.take_behind.ensures.does middle.0 middle.2)

pub returns-in-On-clause-half : goal.returns-in-On-clause-half
returns-in-On-clause-half g c = λ start old before at held.
    let middle = c.in-On.ensures.does old at in
    torn_behind c.args.k start old before g.D.Disk.images c.take_behind.new.a c.take_behind.new.b
    c.take_behind.result middle.0 middle.1
    (c.take_behind.ensures.half middle.0 middle.2 (c.in-On.ensures.holds held))

pub returns-in-On-clause-holds : goal.returns-in-On-clause-holds
returns-in-On-clause-holds g c = λ held. c.take_behind.ensures.holds (c.in-On.ensures.holds held)

pub returns-in-Halted-clause-half : goal.returns-in-Halted-clause-half
returns-in-Halted-clause-half g c = λ start old before at held.
    torn_first c.args.k start old before g.D.Disk.images c.take_line_of.new.a c.take_line_of.new.b
    (c.in-Halted.ensures.half old at held)
