use Rattle.std.proofs.Common.{◌∙◌, sym}
use Rattle.std.proofs.lemmas.Bool.{false≢true}
use Rattle.health_check.proofs.Refusing.{are_children, none_missing_of, none_told, not_repeated, told_none}
use Rattle.health_check.proofs.soundness.are_children.Goals as goal

pub returns-then-has_repeated : goal.returns-then-has_repeated
returns-then-has_repeated c = (
  λ t. absurd (false≢true t),
  λ are. absurd (not_repeated c.args.list.now c.args.children.now
      (sym c.has_repeated.ensures ∙ c.if-has_repeated.true) are),
)

pub returns : goal.returns
returns c = (
  λ t. are_children c.args.list.now c.args.children.now
      (sym c.has_repeated.ensures ∙ c.if-has_repeated.false)
      (sym c.first_missing.ensures
      ∙ none_told c.first_missing.result c.is_none.result c.is_none.ensures t),
  λ are. told_none c.first_missing.result c.is_none.result c.is_none.ensures
      (c.first_missing.ensures ∙ none_missing_of c.args.list.now c.args.children.now are),
)
