use Rattle.std.proofs.Common.{refl, sym}
use Rattle.record_set.proofs.Times.{all_as_often}
use Rattle.record_set.proofs.sameness.same_values.Goals as goal

pub returns : goal.returns
returns c = (
  λ t. all_as_often c.args.values.now c.args.others.now (c.if-not-are_as_often.ensures.0 refl)
      (c.are_as_often-2.ensures.0 t),
  λ s. c.are_as_often-2.ensures.1 (λ i datum h. sym (s datum)),
)
