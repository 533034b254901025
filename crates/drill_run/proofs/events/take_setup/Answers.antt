use Rattle.std.proofs.Common.{◌∙◌}
use Rattle.drill_run.proofs.Steps.{half_so, set_up_half, set_up_next, taken_so, within}
use Rattle.r53_gen.specs.Lines.{setup}
use Rattle.drill_run.proofs.events.take_setup.Goals as goal

pub front-requires : goal.front-requires
front-requires g c = within c.in-Some.len c.setup_line.new.into (setup c.args.i) c.in-Some.ensures.text
    c.in-Some.ensures.len

pub returns-clause-does : goal.returns-clause-does
returns-clause-does g c = λ start old before at.
    set_up_next c.args.i start old before c.take_line.result c.take_line.new.store
    c.take_line.new.tally
    (taken_so c.args.tables.now c.front.result.now (setup c.args.i) c.requires.tables
    (c.front.ensures ∙ c.in-Some.ensures.text) c.take_line.result old c.take_line.new.store
    c.take_line.new.tally (c.take_line.ensures.does old at))

pub returns-clause-half : goal.returns-clause-half
returns-clause-half g c = λ start old before at held.
    set_up_half c.args.i start old before g.D.Disk.images c.take_line.new.a c.take_line.new.b
    c.take_line.result c.requires.within
    (half_so c.args.tables.now c.front.result.now (setup c.args.i) c.requires.tables
    (c.front.ensures ∙ c.in-Some.ensures.text) g.D.Disk.images c.take_line.new.a c.take_line.new.b
    c.take_line.result old (c.take_line.ensures.half old at held))
