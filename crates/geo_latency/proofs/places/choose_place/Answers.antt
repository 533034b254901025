use Rattle.std.proofs.Common.{◌≡◌, ◌-◌, false, arith, ap, drop, get_or, length, refl, subst, sym, ◌∙◌}
use Rattle.std.specs.Option.{option_copied}
use Rattle.geo_latency.proofs.Ranks.{at_next, none_chosen, one_chosen}
use Rattle.geo_latency.specs.Nearest.{IsFirstRank, ranks, with_set}
use Rattle.geo_latency.proofs.places.choose_place.Goals as goal

pub loop-i-preserved-then-is_elsewhere : goal.loop-i-preserved-then-is_elsewhere
loop-i-preserved-then-is_elsewhere c =
    let client = option_copied c.args.client in
    let lists = ranks client c.args.healthy.now c.loop-i.i (drop c.loop-i.i c.args.places.now) in
    let here = at_next c.args.healthy.now client c.args.places.now c.index-places-i.result
    c.loop-i.i c.loop-i-test.true c.loop-i.auto.i c.index-places-i.is in
    let passed = c.if-is_elsewhere.ensures client c.wanted_country-country.ensures refl in
    record {
      leads = subst (IsFirstRank c.loop-i.nearest.rank c.loop-i.nearest.set)
          (sym (here ∙ ap (λ o. with_set (get_or c.args.healthy.now (c.loop-i.i - 1) false) o
          (c.loop-i.i - 1) lists) passed)) c.loop-i.invariant.leads;
      most = c.loop-i.invariant.most;
      within = c.loop-i.invariant.within;
    }

pub loop-i-preserved : goal.loop-i-preserved
loop-i-preserved c =
    let client = option_copied c.args.client in
    let lists = ranks client c.args.healthy.now c.loop-i.i (drop c.loop-i.i c.args.places.now) in
    let here = at_next c.args.healthy.now client c.args.places.now
    c.index-places-i-in-loop-i.result c.loop-i.i
    c.loop-i-test.true c.loop-i.auto.i c.index-places-i-in-loop-i.is in
    record {
      leads = subst (IsFirstRank c.with_set-nearest.result.rank c.with_set-nearest.result.set) (sym here)
          (c.with_set-nearest.ensures.leads lists refl c.loop-i.invariant.leads);
      most = c.with_set-nearest.ensures.rank c.loop-i.invariant.most;
      within = c.with_set-nearest.ensures.within (length c.args.places.now) (omega arith)
          c.loop-i.invariant.within;
    }

pub returns-then-nearest-ge-NONE-clause-chosen : goal.returns-then-nearest-ge-NONE-clause-chosen
returns-then-nearest-ge-NONE-clause-chosen c =
    let i : c.loop-i.i ≡ 0 = omega arith in
    none_chosen c.args.healthy.now (option_copied c.args.client) c.args.places.now _ _
    c.loop-i.invariant.most (omega (arith, c.if-nearest-ge-NONE.true))
    (subst (λ i. IsFirstRank c.loop-i.nearest.rank c.loop-i.nearest.set
    (ranks (option_copied c.args.client) c.args.healthy.now i (drop i c.args.places.now)))
    i c.loop-i.invariant.leads)

pub returns-clause-chosen : goal.returns-clause-chosen
returns-clause-chosen c =
    let i : c.loop-i.i ≡ 0 = omega arith in
    one_chosen c.args.healthy.now (option_copied c.args.client) c.args.places.now _ _
    (omega (arith, c.if-nearest-ge-NONE.false))
    (subst (λ i. IsFirstRank c.loop-i.nearest.rank c.loop-i.nearest.set
    (ranks (option_copied c.args.client) c.args.healthy.now i (drop i c.args.places.now)))
    i c.loop-i.invariant.leads)
