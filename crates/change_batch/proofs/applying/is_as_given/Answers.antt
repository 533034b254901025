use Rattle.std.proofs.Common.{◌≡◌, ◌∙◌, sym, subst}
use Rattle.set_search.specs.RecordSetRecord.{RecordSet}
use Rattle.set_search.specs.Sameness.{Same}
use Rattle.change_batch.proofs.Told.{as_given}
use Rattle.zone_rules.specs.Lent.{sets_lent}
use Rattle.change_batch.proofs.applying.is_as_given.Goals as goal

pub returns : goal.returns
returns c =
    let f = c.requires in
    let own = c.set_at.ensures in
    let kept = f.there in
    let it : c.set_at.result.now ≡ f.kept = cc in (
      (λ t. as_given (sets_lent c.args.sets.now) c.args.given.now c.args.place f
          (subst (λ (s : RecordSet). Same s c.args.given.now) it (c.same.ensures.0 t))),
      λ h. c.same.ensures.1 (subst (λ (s : RecordSet). Same s c.args.given.now) (f.only h.0 h.1
          ∙ sym it) h.2),
    )
