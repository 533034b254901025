use Rattle.std.proofs.Common.{◌∙◌, sym}
use Rattle.std.proofs.lemmas.Bool.{false≢true}
use Rattle.drill_run.proofs.Steps.{behind_on, half_so, nothing_behind, taken_so, torn_mapped, within}
use Rattle.drill_run.specs.Counting.{OctetsHalt}
use Rattle.drill_run.specs.Drills.{no_tables}
use Rattle.drill_run.specs.Leaving.{IsHalf}
use Rattle.r53_gen.specs.Lines.{compaction}
use Rattle.drill_run.proofs.events.take_behind.Goals as goal

pub front-requires : goal.front-requires
front-requires g c = within c.compaction_line-len.result c.compaction_line-len.new.into compaction
    c.compaction_line-len.ensures.text c.compaction_line-len.ensures.len

pub returns-then-is_compacted-clause-does : goal.returns-then-is_compacted-clause-does
returns-then-is_compacted-clause-does g c = λ old at.
    behind_on c.args.k old c.take_line.result c.take_line.new.store c.take_line.new.tally
    (c.is_compacted.ensures.0 c.if-is_compacted.true)
    (taken_so c.args.tables.now c.front.result.now compaction c.requires.tables
    (c.front.ensures ∙ c.compaction_line-len.ensures.text) c.take_line.result old
    c.take_line.new.store c.take_line.new.tally (c.take_line.ensures.does old at))

pub returns-then-is_compacted-clause-half : goal.returns-then-is_compacted-clause-half
returns-then-is_compacted-clause-half g c = λ old at held.
    torn_mapped c.take_line.result
    (IsHalf g.D.Disk.images c.take_line.new.a c.take_line.new.b (OctetsHalt no_tables compaction) old)
    _ (λ half. (c.is_compacted.ensures.0 c.if-is_compacted.true, half))
    (half_so c.args.tables.now c.front.result.now compaction c.requires.tables
    (c.front.ensures ∙ c.compaction_line-len.ensures.text) g.D.Disk.images c.take_line.new.a
    c.take_line.new.b c.take_line.result old (c.take_line.ensures.half old at held))

pub returns-clause-does : goal.returns-clause-does
returns-clause-does g c = λ old at.
    nothing_behind c.args.k old c.args.store.now c.args.tally.now
    (λ is. false≢true (sym c.if-is_compacted.false ∙ c.is_compacted.ensures.1 is)) at
