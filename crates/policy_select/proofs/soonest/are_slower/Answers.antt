use Rattle.std.proofs.Common.{arith, inl, inr, subst, sym}
use Rattle.std.proofs.lemmas.Bool.{cases_eq}
use Rattle.policy_select.specs.Soonest.{IsSlower}
use Rattle.policy_select.proofs.soonest.are_slower.Goals as goal

pub loop-i-preserved : goal.loop-i-preserved
loop-i-preserved c = λ other lt.
    let here = c.is_slower.ensures c.if-not-is_slower.false in
    elim (cases_eq other c.loop-i.i) [
      | inl e ↦ subst (λ n. IsSlower c.args.slow.now c.args.healthy.now c.args.all c.args.place n) (sym e) here
      | inr ne ↦ c.loop-i.invariant other (omega (arith, lt, ne))
    ]
