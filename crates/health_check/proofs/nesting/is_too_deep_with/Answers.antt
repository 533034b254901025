use Rattle.std.proofs.Common.{Bool, ap, ◌∙◌}
use Rattle.std.specs.List.{list_any}
use Rattle.health_check.proofs.Marked.{deep_told}
use Rattle.health_check.proofs.nesting.is_too_deep_with.Goals as goal

pub returns : goal.returns
returns c =
    c.has_mark.ensures ∙ ap (list_any (λ (mark : Bool). mark)) c.front.ensures
    ∙ deep_told c.args.id c.args.children.now c.args.list.now c.requires.rising c.mark.new.marks
    c.mark.ensures.marks
