use Rattle.std.proofs.Common.{◌≡◌, ◌<◌, ◌≤◌, ℕ, List, None, Some, length, arith, refl, ap, sym, ◌∙◌, inl, inr}
use Rattle.std.proofs.lemmas.Bool.{cases_eq, false≢true}
use Rattle.std.proofs.lemmas.List.Elements.{All-contains}
use mathlib.Core.Path.{subst}
use Rattle.std.specs.List.{Contains}
use Rattle.valve_feeds.specs.Feeds.{AreReversed, feeders_of}
use Rattle.health_valves.specs.Valves.{BothWays, Feeds, IsSoleFeeder, Net, ValvesStandFor, fed_by, size_of}
use Rattle.health_valves.specs.declared.valves.Valves.{Valves}
use Rattle.health_valves.proofs.Times.{in_times, times_in}
use Rattle.health_valves.proofs.valves.Valves.sole_feeder.Goals as goal

some_same : {X : Type 0} {x y : X} → Some x ≡ Some y → x ≡ y
some_same e = cc

-- what feeds a valve stands among its feeders, and what it feeds among those of each
module _ (valves : Valves) (net : Net) (own : ℕ → ℕ) (fits : ValvesStandFor net own valves)
    (reversed : AreReversed valves.feeds) where
  into : (x y : ℕ) → y < net.size → Feeds net x y → Contains (feeders_of valves.feeds y) x
  into x y within fed =
      times_in x _ (subst (λ n. 0 < n) (sym (fits.laid.reversed x y within) ∙ reversed.times x y) (in_times x _ fed))

  from : (x y : ℕ) → y < net.size → Contains (feeders_of valves.feeds y) x → Feeds net x y
  from x y within m =
      times_in x _ (subst (λ n. 0 < n) (sym (reversed.times x y) ∙ fits.laid.reversed x y within) (in_times x _ m))

  out : (x y : ℕ) → y < net.size → Feeds net x y → Contains (fed_by valves.feeds x) y
  out x y within fed =
      times_in y _ (subst (λ n. 0 < n) (sym (fits.laid.reversed x y within)) (in_times x _ fed))

  back : (x y : ℕ) → y < net.size → Contains (fed_by valves.feeds x) y → Feeds net x y
  back x y within m =
      times_in x _ (subst (λ n. 0 < n) (fits.laid.reversed x y within) (in_times y _ m))

pub returns-in_default-clause-all : goal.returns-in_default-clause-all
returns-in_default-clause-all c net own fits x sole =
    let valve = c.args.valve in
    let here : valve < net.size = subst (λ n. valve < n) fits.laid.size c.requires.valve in
    let m = into c.args.self.now net own fits c.len.ensures.reversed x valve here sole.feeds in
    absurd (c.in_default.ensures.none refl x sole.late (subst (λ l. Contains l x) (sym c.feeders.ensures.feeders) m))

pub returns-then-not-is_only-clause-all : goal.returns-then-not-is_only-clause-all
returns-then-not-is_only-clause-all c net own fits x sole =
    let valve = c.args.valve in
    let here : valve < net.size = subst (λ n. valve < n) fits.laid.size c.requires.valve in
    let f = c.in-Some.ensures.found c.in-Some.feeder refl in
    let feeds = λ (y : ℕ) (m : Contains (feeders_of c.args.self.now.feeds valve) y).
    from c.args.self.now net own fits c.len.ensures.reversed y valve here m in
    let mine = sole.only c.in-Some.feeder f.0 (feeds c.in-Some.feeder (subst (λ l. Contains l c.in-Some.feeder) c.feeders.ensures.feeders f.1)) in
    absurd (false≢true (sym c.if-not-is_only.true ∙ c.is_only.ensures.1 (λ y late m.
    sole.only y late (feeds y (subst (λ l. Contains l y) c.feeders-2.ensures.feeders m)) ∙ sym mine)))

pub returns-then-has_other-clause-all : goal.returns-then-has_other-clause-all
returns-then-has_other-clause-all c net own fits x sole =
    let valve = c.args.valve in
    let here : valve < net.size = subst (λ n. valve < n) fits.laid.size c.requires.valve in
    let f = c.in-Some.ensures.found c.in-Some.feeder refl in
    let mine = sole.only c.in-Some.feeder f.0
    (from c.args.self.now net own fits c.len.ensures.reversed c.in-Some.feeder valve here (subst (λ l. Contains l c.in-Some.feeder) c.feeders.ensures.feeders f.1)) in
    let o = c.has_other.ensures.0 c.if-has_other.true in
    let m = subst (λ l. Contains l o.0) c.fed.ensures.fed o.1.1 in
    let within = fits.laid.within c.in-Some.feeder o.0 m in
    absurd (o.1.0 (sole.alone o.0 within (subst (λ n. Feeds net n o.0) mine
    (back c.args.self.now net own fits c.len.ensures.reversed c.in-Some.feeder o.0 within m))))

pub returns-clause-found : goal.returns-clause-found
returns-clause-found c net own fits x is =
    let valve = c.args.valve in
    let here : valve < net.size = subst (λ n. valve < n) fits.laid.size c.requires.valve in
    let f = c.in-Some.ensures.found c.in-Some.feeder refl in
    let self = c.args.self.now in
    let reversed = c.len.ensures.reversed in
    subst (IsSoleFeeder net valve c.args.first) (some_same is) (record {
      late = f.0;
      feeds = from self net own fits reversed c.in-Some.feeder valve here (subst (λ l. Contains l c.in-Some.feeder) c.feeders.ensures.feeders f.1);
      only = λ y late fed. c.is_only.ensures.0 c.if-not-is_only.false y late
          (subst (λ l. Contains l y) (sym c.feeders-2.ensures.feeders) (into self net own fits reversed y valve here fed));
      alone = λ y within fed. elim (cases_eq y valve) [
        | inl e ↦ e
        | inr apart ↦ absurd (false≢true (sym c.if-has_other.false
            ∙ c.has_other.ensures.1 (y, (apart, subst (λ l. Contains l y) (sym c.fed.ensures.fed) (out self net own fits reversed c.in-Some.feeder y within fed)))))
      ];
    })

pub returns-clause-all : goal.returns-clause-all
returns-clause-all c net own fits x sole =
    let valve = c.args.valve in
    let here : valve < net.size = subst (λ n. valve < n) fits.laid.size c.requires.valve in
    let f = c.in-Some.ensures.found c.in-Some.feeder refl in
    ap Some (sole.only c.in-Some.feeder f.0
    (from c.args.self.now net own fits c.len.ensures.reversed c.in-Some.feeder valve here (subst (λ l. Contains l c.in-Some.feeder) c.feeders.ensures.feeders f.1)))

pub returns-clause-within : goal.returns-clause-within
returns-clause-within c x is =
    let r = c.requires.ready in
    let f = c.in-Some.ensures.found c.in-Some.feeder refl in
    let low = All-contains (λ y. y < length c.args.self.now.feeds.fed) _ c.in-Some.feeder c.feeders.ensures.within f.1 in
    let one = r.2.laid.size in
    let two = r.2.laid.valves in
    subst (λ n. n < size_of c.args.self.now) (some_same is) (omega (arith, low, one, two))
