use Rattle.std.proofs.Common.{inl, inr, sym, ◌∙◌}
use mathlib.Core.Path.{subst}
use Rattle.std.specs.List.{Contains}
use Rattle.health_valves.proofs.Members.{in_cases, in_tail}
use Rattle.health_valves.proofs.sharing.has_other.Goals as goal

pub loop-other-preserved : goal.loop-other-preserved
loop-other-preserved c =
    let i = c.loop-other.invariant in
    let steps = c.in-Some.ensures.steps in
    let other = c.in-Some.other in
    let valve = c.args.valve in
    let rest = c.next.new.self in (
      λ h.
          let m = i.0 h in
          elim (in_cases other m.0 rest (subst (λ l. Contains l m.0) steps m.1.1)) [
            | inl e ↦ absurd (m.1.0 (sym e ∙ c.if-other-valve.false))
            | inr later ↦ (m.0, (m.1.0, later))
          ],
      λ m. i.1 (m.0, (m.1.0, subst (λ l. Contains l m.0) (sym steps) (in_tail other m.0 rest m.1.1))),
    )
