use Rattle.std.proofs.Common.{◌-◌, Bool, true, false, not, refl, arith, subst}
use Rattle.std.specs.Prelude.{◌↔◌, IsTrue}
use Rattle.zone_rules.specs.Groups.{IsStart}
use Rattle.zone_rules.proofs.Runs.{mixed_within, first_alone}
use Rattle.zone_rules.specs.Lent.{sets_lent}
use Rattle.zone_rules.proofs.policies.is_mixed.Goals as goal

-- what holds where a test fails
negated : (P Q : Type 0) (test : Bool) → (IsTrue test ↔ P) → ((P → ⊥) ↔ Q) → (IsTrue (not test) ↔ Q)
negated P Q true t q =
    ((λ no_test. absurd (grind (arith, no_test))), λ h. absurd (q.1 h (t.0 refl)))
negated P Q false t q = ((λ e. q.0 (λ p. let yes = t.1 p in grind (arith, yes))), λ h. refl)

pub returns-then-start-i : goal.returns-then-start-i
returns-then-start-i c =
    let s = subst (λ n. IsStart (sets_lent c.args.sets.now) n c.args.i) c.if-start-i.true c.requires.start in (
      (λ t. absurd (grind (arith, t))),
      λ breaks. absurd (first_alone (sets_lent c.args.sets.now) c.args.i s breaks),
    )

pub returns : goal.returns
returns c =
    let sets = sets_lent c.args.sets.now in
    let i = c.args.i in
    let le = c.requires.start.within in
    let apart = c.if-start-i.false in
    let x = c.set_at.result.now in
    let y = c.set_at-2.result.now in
    negated _ _ c.is_one_policy.result c.is_one_policy.ensures
    (mixed_within sets c.args.start (i - 1) i x y c.requires.rising c.requires.start
    (omega (arith, le, apart)) (omega (arith, le, apart))
    c.set_at.ensures c.set_at-2.ensures)
