use Rattle.std.proofs.Common.{◌∙◌}
use Rattle.drill_run.proofs.Steps.{half_so, taken_so, within}
use Rattle.r53_gen.specs.Lines.{event_line}
use Rattle.drill_run.proofs.events.take_line_of.Goals as goal

pub front-requires : goal.front-requires
front-requires g c = within c.event_line-len.result c.event_line-len.new.into (event_line c.args.k)
    c.event_line-len.ensures.text c.event_line-len.ensures.len

pub returns-clause-does : goal.returns-clause-does
returns-clause-does g c = λ old at.
    taken_so c.args.tables.now c.front.result.now (event_line c.args.k) c.requires.tables
    (c.front.ensures ∙ c.event_line-len.ensures.text) c.take_line.result old c.take_line.new.store
    c.take_line.new.tally (c.take_line.ensures.does old at)

pub returns-clause-half : goal.returns-clause-half
returns-clause-half g c = λ old at held.
    half_so c.args.tables.now c.front.result.now (event_line c.args.k) c.requires.tables
    (c.front.ensures ∙ c.event_line-len.ensures.text) g.D.Disk.images c.take_line.new.a c.take_line.new.b
    c.take_line.result old (c.take_line.ensures.half old at held)
