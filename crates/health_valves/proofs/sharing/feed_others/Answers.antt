use Rattle.std.proofs.Common.{◌≡◌, ◌≤◌, ◌<◌, ◌↔◌, ℕ, List, ◌∷◌, length, inl, inr, sym, ◌∙◌, arith}
use Rattle.std.proofs.lemmas.Bool.{false≢true}
use Rattle.std.specs.List.{Contains}
use Rattle.std.proofs.lemmas.List.Elements.{All-tail}
use mathlib.Core.Path.{subst}
use Rattle.health_valves.specs.Valves.{BothWays, FeedOthers, HasOther, fed_by}
use Rattle.health_valves.proofs.Members.{in_cases, in_head, in_tail}
use Rattle.health_valves.proofs.sharing.feed_others.Goals as goal

-- of a valve that feeds another one, or stands before the first that is asked for
module _ (feeds : BothWays) (valve first feeder : ℕ) (all listed rest : List ℕ)
    (steps : listed ≡ feeder ∷ rest)
    (was : FeedOthers feeds valve first all ↔ FeedOthers feeds valve first listed)
    (feeds_other : first ≤ feeder → HasOther valve (fed_by feeds feeder)) where
  stepped : FeedOthers feeds valve first all ↔ FeedOthers feeds valve first rest
  stepped = (
    λ each x late m. was.0 each x late (subst (λ l. Contains l x) (sym steps) (in_tail feeder x rest m)),
    λ each. was.1 (λ x late m.
        elim (in_cases feeder x rest (subst (λ l. Contains l x) steps m)) [
          | inl e ↦ subst (λ n. HasOther valve (fed_by feeds n)) e (feeds_other (omega (arith, e, late)))
          | inr later ↦ each x late later
        ]),
  )

pub returns-then-not-has_other : goal.returns-then-not-has_other
returns-then-not-has_other c = (
  λ so. absurd (false≢true so),
  λ each.
      let feeder = c.in-Some.feeder in
      let m = subst (λ l. Contains l feeder) (sym c.in-Some.ensures.steps) (in_head feeder c.next.new.self) in
      let other = c.loop-feeder.invariant.rest.0 each feeder c.if-feeder-first.true m in
      absurd (false≢true (sym c.if-not-has_other.true
      ∙ c.has_other.ensures.1 (subst (HasOther c.args.valve) (sym c.fed.ensures.fed) other))),
)

pub loop-feeder-preserved-else-not-has_other : goal.loop-feeder-preserved-else-not-has_other
loop-feeder-preserved-else-not-has_other c =
    let i = c.loop-feeder.invariant in
    let feeder = c.in-Some.feeder in
    record {
      rest = stepped c.args.feeds.now c.args.valve c.args.first feeder c.args.feeders c.loop-feeder.feeder-iterator c.next.new.self
          c.in-Some.ensures.steps i.rest (λ late. subst (HasOther c.args.valve) c.fed.ensures.fed (c.has_other.ensures.0 c.if-not-has_other.false));
      within = All-tail (λ x. x < length c.args.feeds.now.fed) feeder c.next.new.self (rw c.in-Some.ensures.steps at i.within);
    }

pub loop-feeder-preserved : goal.loop-feeder-preserved
loop-feeder-preserved c =
    let i = c.loop-feeder.invariant in
    let feeder = c.in-Some.feeder in
    let early = c.if-feeder-first.false in
    record {
      rest = stepped c.args.feeds.now c.args.valve c.args.first feeder c.args.feeders c.loop-feeder.feeder-iterator c.next.new.self
          c.in-Some.ensures.steps i.rest (λ late. absurd (omega (arith, late, early)));
      within = All-tail (λ x. x < length c.args.feeds.now.fed) feeder c.next.new.self (rw c.in-Some.ensures.steps at i.within);
    }
