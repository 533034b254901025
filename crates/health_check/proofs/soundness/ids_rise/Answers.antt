use Rattle.std.proofs.Common.{◌<◌, ◌∙◌, sym, subst}
use Rattle.std.specs.List.{AllByRecursion}
use Rattle.std.proofs.lemmas.Bool.{false≢true}
use Rattle.check_model.specs.Checks.{IdsRise}
use Rattle.health_check.proofs.Places.{Held}
use Rattle.health_check.proofs.InTurn.{ends, goes_on}
use Rattle.health_check.proofs.soundness.ids_rise.Goals as goal

pub returns-then-not-are_above : goal.returns-then-not-are_above
returns-then-not-are_above c =
    ends IdsRise
    (λ (held : Held). AllByRecursion (λ (other : Held). held.0 < other.0))
    (λ held list p. p)
    (λ held list q p. (q, p)) c.args.list.now c.loop-i.i c.index-list-i.result c.loop-i-test.true
    c.loop-i.invariant
    (λ q. false≢true (sym c.if-not-are_above.true ∙ c.are_above.ensures.1
    (subst (AllByRecursion _) (sym c.behind.ensures) q)))

pub loop-i-preserved : goal.loop-i-preserved
loop-i-preserved c =
    goes_on IdsRise
    (λ (held : Held). AllByRecursion (λ (other : Held). held.0 < other.0))
    (λ held list p. p)
    (λ held list q p. (q, p)) c.args.list.now c.loop-i.i c.index-list-i.result c.loop-i-test.true
    c.loop-i.invariant
    (subst (AllByRecursion _) c.behind.ensures (c.are_above.ensures.0 c.if-not-are_above.false))
