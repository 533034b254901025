use Rattle.std.proofs.Common.{subst}
use Rattle.batch_limits.specs.Batches.{IsWithinLimits, Leaves}
use Rattle.batch_limits.specs.Rules.{MeetsAll, rules}
use Rattle.zone_rules.specs.Lent.{sets_lent}
use Rattle.change_batch.proofs.preparing.prepare_lent.Goals as goal

pub returns-clause-answer : goal.returns-clause-answer
returns-clause-answer c = (
  subst (λ changes. IsWithinLimits changes c.args.apex.now) c.as_slice-changes.ensures
      c.in_default.ensures,
  subst (λ changes. Leaves c.args.sets.now c.args.apex.now changes (sets_lent c.in-Ok.after.items))
      c.as_slice-changes.ensures c.in-Ok.ensures.leaves,
  subst (λ sets. MeetsAll rules (sets_lent sets) c.args.apex.now) c.as_slice.ensures.value
      c.in_default-first_break.ensures,
)
