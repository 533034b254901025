use Rattle.std.proofs.Common.{Option, ◌∙◌, subst, sym}
use Rattle.std.specs.Prelude.{IfSome}
use Rattle.zone_table.specs.RecordSetRecord.{RecordSet}
use Rattle.policy_select.specs.Rules.{IsOf}
use Rattle.policy_select.proofs.Policies.{by_held}
use Rattle.policy_select.proofs.selection.select.Goals as goal

pub choose-requires-clause-at : goal.choose-requires-clause-at
choose-requires-clause-at g c =
    let held = c.load_member.ensures in
    by_held c.args.zones.now.zones c.args.group c.requires.group c.load_member.new.scratch held.some.0
    c.policy_place-at.result (sym held.loaded ∙ held.some.1) held.some.1 c.policy_place-at.ensures

pub choose-requires-clause-first : goal.choose-requires-clause-first
choose-requires-clause-first g c =
    let held = c.load_member.ensures in (
      held.some.0,
      sym held.loaded ∙ held.some.1,
      subst (λ (h : Option RecordSet). IfSome h (λ s. IsOf c.rule_held-rule.result s.routing))
          held.some.1 c.rule_held-rule.ensures,
    )
