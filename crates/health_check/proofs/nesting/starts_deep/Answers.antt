use Rattle.std.proofs.Common.{[], ◌∙◌, sym}
use Rattle.health_check.proofs.Marked.{any_tells, none_start}
use Rattle.health_check.proofs.nesting.starts_deep.Goals as goal

pub returns-then-not-has_calculated : goal.returns-then-not-has_calculated
returns-then-not-has_calculated c =
    sym (none_start 0 [] c.args.list.now 2 c.args.children.now
    (sym c.has_calculated.ensures ∙ c.if-not-has_calculated.true))

pub returns : goal.returns
returns c =
    c.any_marked.ensures
    ∙ any_tells 0 [] c.args.list.now c.requires.rising 3 c.mark.new.marks c.mark.ensures.marks
    c.args.children.now
