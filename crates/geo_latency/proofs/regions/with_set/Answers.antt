use Rattle.std.proofs.Common.{sym, ap, subst, ◌∙◌}
use Rattle.std.specs.Option.{option_copied}
use Rattle.geo_latency.specs.First.{IsFirst}
use Rattle.geo_latency.specs.Regions.{slowness}
use Rattle.geo_latency.proofs.Order.{only, taken, worked_out}
use Rattle.geo_latency.proofs.regions.with_set.Goals as goal

pub returns-in_default : goal.returns-in_default
returns-in_default c =
    let client = option_copied c.args.client in
    only client c.args.regions.now c.args.healthy.now c.args.all c.args.i c.slowness-slowness.result
    (c.slowness-slowness.ensures ∙ ap (slowness client) c.region_at-region.ensures)
    (sym c.if-not-is_considered.ensures)
    (subst (λ f. IsFirst client c.args.regions.now c.args.healthy.now c.args.all c.args.i f)
    c.in_default.is c.requires.first)

pub returns-then-is_before : goal.returns-then-is_before
returns-then-is_before c =
    let client = option_copied c.args.client in
    let is = subst (λ f. IsFirst client c.args.regions.now c.args.healthy.now c.args.all c.args.i f)
    c.in-Some.is c.requires.first in
    taken client c.args.regions.now c.args.healthy.now c.args.all c.args.i
    c.slowness-slowness.result
    (c.slowness-slowness.ensures ∙ ap (slowness client) c.region_at-region.ensures)
    (sym c.if-not-is_considered.ensures) c.in-Some.known is
    (worked_out client _ _ _ _ _ _ _ c.slowness-slowness.ensures c.region_at-region.ensures is.slow
    c.region_at-other.ensures c.if-is_before.ensures)
