use Rattle.std.proofs.Common.{◌≡◌, ◌∙◌, sym}
use Rattle.std.proofs.lemmas.Bool.{false≢true}
use Rattle.alias_links.proofs.Aliased.{alias_test}
use Rattle.alias_links.proofs.ending.is_alias_of.Goals as goal

pub returns-then-not-is_alias : goal.returns-then-not-is_alias
returns-then-not-is_alias c = (
  λ e. absurd (false≢true e),
  λ both. absurd (false≢true (sym c.if-not-is_alias.true
      ∙ (c.is_alias.ensures ∙ (alias_test c.args.set.now.body).1 both.0))),
)

pub returns : goal.returns
returns c = (
  λ e. (
    (alias_test c.args.set.now.body).0 (sym c.is_alias.ensures ∙ c.if-not-is_alias.false),
    sym c.is_of_group.ensures ∙ e,
  ),
  λ both. c.is_of_group.ensures ∙ both.1,
)
