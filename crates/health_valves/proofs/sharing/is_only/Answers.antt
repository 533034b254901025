use Rattle.std.proofs.Common.{◌≡◌, ◌≤◌, ◌↔◌, ℕ, List, ◌∷◌, arith, refl, inl, inr, sym, ◌∙◌}
use Rattle.std.proofs.lemmas.Bool.{false≢true}
use mathlib.Core.Path.{subst}
use Rattle.std.specs.List.{Contains}
use Rattle.health_valves.proofs.Members.{in_cases, in_head, in_none, in_tail}
use Rattle.health_valves.proofs.sharing.is_only.Goals as goal

-- of a valve that is this one, or stands before the first that is asked for
module _ (first feeder other : ℕ) (all listed rest : List ℕ) (steps : listed ≡ other ∷ rest)
    (was : ((x : ℕ) → first ≤ x → Contains all x → x ≡ feeder) ↔ ((x : ℕ) → first ≤ x → Contains listed x → x ≡ feeder))
    (is_it : first ≤ other → other ≡ feeder) where
  stepped : ((x : ℕ) → first ≤ x → Contains all x → x ≡ feeder) ↔ ((x : ℕ) → first ≤ x → Contains rest x → x ≡ feeder)
  stepped = (
    λ each x late m. was.0 each x late (subst (λ l. Contains l x) (sym steps) (in_tail other x rest m)),
    λ each. was.1 (λ x late m.
        elim (in_cases other x rest (subst (λ l. Contains l x) steps m)) [
          | inl e ↦ sym e ∙ is_it (omega (arith, e, late))
          | inr later ↦ each x late later
        ]),
  )

pub loop-other-init : goal.loop-other-init
loop-other-init c =
    let same = c.into_iter-other-iterator.ensures.into_iter_gives in (
      λ each x late m. each x late (subst (λ l. Contains l x) same m),
      λ each x late m. each x late (subst (λ l. Contains l x) (sym same) m),
    )

pub returns-then-other-feeder : goal.returns-then-other-feeder
returns-then-other-feeder c = (
  λ so. absurd (false≢true so),
  λ each.
      let other = c.in-Some.other in
      let m = subst (λ l. Contains l other) (sym c.in-Some.ensures.steps) (in_head other c.next.new.self) in
      absurd (c.if-other-feeder.true (c.loop-other.invariant.0 each other c.if-other-first.true m)),
)

pub loop-other-preserved-else-other-feeder : goal.loop-other-preserved-else-other-feeder
loop-other-preserved-else-other-feeder c =
    stepped c.args.first c.args.feeder c.in-Some.other c.args.feeders c.loop-other.other-iterator c.next.new.self
    c.in-Some.ensures.steps c.loop-other.invariant (λ late. c.if-other-feeder.false)

pub loop-other-preserved : goal.loop-other-preserved
loop-other-preserved c =
    let early = c.if-other-first.false in
    stepped c.args.first c.args.feeder c.in-Some.other c.args.feeders c.loop-other.other-iterator c.next.new.self
    c.in-Some.ensures.steps c.loop-other.invariant (λ late. absurd (omega (arith, late, early)))

pub returns : goal.returns
returns c = (
  λ so. c.loop-other.invariant.1 (λ x late m. absurd (in_none x (subst (λ l. Contains l x) c.in-None.ensures.steps.0 m))),
  λ each. refl,
)
