use Rattle.std.proofs.Common.{Option, subst, sym, ◌∙◌}
use Rattle.std.specs.Prelude.{IfSome}
use Rattle.zone_table.specs.Holding.{IsHolding}
use Rattle.zone_table.specs.RecordSetRecord.{RecordSet}
use Rattle.policy_select.specs.Rules.{IsOf}
use Rattle.policy_select.proofs.rules.rule_of.Goals as goal

pub rule_held-requires : goal.rule_held-requires
rule_held-requires c =
    let first = c.has_first.ensures in
    subst IsHolding (sym (c.requires.held c.if-held.true ∙ first.1)) tt

pub returns-then-held : goal.returns-then-held
returns-then-held c =
    let first = c.has_first.ensures in (
      first.0,
      first.1,
      subst (λ (h : Option RecordSet). IfSome h (λ s. IsOf c.rule_held.result s.routing))
          (c.requires.held c.if-held.true ∙ first.1) c.rule_held.ensures,
    )
