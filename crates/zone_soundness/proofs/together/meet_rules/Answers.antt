use Rattle.std.proofs.Common.{ap, ◌∙◌, subst, List}
use Rattle.std.specs.Prelude.{◌↔◌, IsTrue}
use Rattle.zone_rules.specs.Lent.{sets_lent}
use Rattle.zone_rules.specs.Rules.{MeetsAll, rules}
use Rattle.record_set.specs.declared.sets.RecordSet.{RecordSet}
use Rattle.zone_soundness.proofs.together.meet_rules.Goals as goal

pub returns : goal.returns
returns c =
    subst (λ (sets : List RecordSet). IsTrue c.meet_all.result ↔ MeetsAll rules sets c.args.apex.now)
    (ap sets_lent c.as_slice.ensures.value ∙ c.in_ok-lent.ensures) c.meet_all.ensures
