use Rattle.std.proofs.Common.{sym, subst, ◌∙◌, ap}
use Rattle.batch_limits.specs.Batches.{Prepares}
use Rattle.set_search.specs.Zones.{IsZone}
use Rattle.std.specs.Prelude.{Ok}
use Rattle.zone_rules.specs.Lent.{sets_lent}
use Rattle.change_batch.proofs.preparing.prepare.Goals as goal

pub returns-in-Ok-copy_all-clause-answer : goal.returns-in-Ok-copy_all-clause-answer
returns-in-Ok-copy_all-clause-answer c =
    subst (λ sets. Prepares c.args.sets.now c.args.apex.now c.args.batch.now.changes (Ok sets))
    (sym (c.in-Ok-copy_all.ensures ∙ ap sets_lent c.as_slice.ensures.value)) c.in-Ok.ensures.answer

pub returns-in-Ok-copy_all-clause-zone : goal.returns-in-Ok-copy_all-clause-zone
returns-in-Ok-copy_all-clause-zone c =
    subst (λ sets. IsZone sets c.args.apex.now)
    (sym (c.in-Ok-copy_all.ensures ∙ ap sets_lent c.as_slice.ensures.value)) c.in-Ok.ensures.zone
