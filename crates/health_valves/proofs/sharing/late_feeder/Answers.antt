use Rattle.std.proofs.Common.{arith, inl, inr, sym}
use mathlib.Core.Path.{subst}
use Rattle.std.specs.List.{Contains}
use Rattle.health_valves.proofs.Members.{in_cases, in_none, in_tail}
use Rattle.health_valves.proofs.sharing.late_feeder.Goals as goal

pub loop-feeder-preserved : goal.loop-feeder-preserved
loop-feeder-preserved c x late =
    let i = c.loop-feeder.invariant x late in
    let feeder = c.in-Some.feeder in
    let rest = c.next.new.self in
    let steps = c.in-Some.ensures.steps in
    let early = c.if-feeder-first.false in (
      λ m. elim (in_cases feeder x rest (subst (λ l. Contains l x) steps (i.0 m))) [
        | inl e ↦ absurd (omega (arith, e, late, early))
        | inr later ↦ later
      ],
      λ m. i.1 (subst (λ l. Contains l x) (sym steps) (in_tail feeder x rest m)),
    )

pub returns-clause-none : goal.returns-clause-none
returns-clause-none c is x late m =
    in_none x (subst (λ l. Contains l x) c.in-None.ensures.steps.0 ((c.loop-feeder.invariant x late).0 m))
