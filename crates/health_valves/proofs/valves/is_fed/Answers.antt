use Rattle.std.proofs.Common.{inl, inr, sym}
use Rattle.std.specs.List.{Contains}
use mathlib.Core.Path.{subst}
use Rattle.health_valves.proofs.Members.{in_cases, in_tail}
use Rattle.health_valves.proofs.valves.is_fed.Goals as goal

pub loop-other-preserved : goal.loop-other-preserved
loop-other-preserved c =
    let i = c.loop-other.invariant in
    let steps = c.in-Some.ensures.steps in
    let other = c.in-Some.other in
    let valve = c.args.valve in
    let rest = c.next.new.self in (
      λ m. elim (in_cases other valve rest (subst (λ l. Contains l valve) steps (i.0 m))) [
        | inl e ↦ absurd (c.if-other-valve.false e)
        | inr later ↦ later
      ],
      λ m. i.1 (subst (λ l. Contains l valve) (sym steps) (in_tail other valve rest m)),
    )
