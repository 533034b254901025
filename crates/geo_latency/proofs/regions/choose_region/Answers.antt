use Rattle.std.proofs.Common.{arith, not, subst}
use Rattle.std.specs.Option.{option_copied}
use Rattle.geo_latency.specs.First.{IsFirst}
use Rattle.geo_latency.proofs.Head.{never_none, first_is_chosen}
use Rattle.geo_latency.proofs.regions.choose_region.Goals as goal

pub unreachable-requires : goal.unreachable-requires
unreachable-requires c =
    never_none (option_copied c.args.client) c.args.regions.now c.args.healthy.now _
    c.some_healthy-all.ensures
    c.loop-i.i (omega arith) c.requires.some
    (subst (λ f. IsFirst (option_copied c.args.client) c.args.regions.now c.args.healthy.now
    (not c.some_healthy-all.result) c.loop-i.i f) c.in-None.is c.loop-i.invariant)

pub returns-clause-chosen : goal.returns-clause-chosen
returns-clause-chosen c =
    first_is_chosen (option_copied c.args.client) c.args.regions.now c.args.healthy.now _
    c.some_healthy-all.ensures
    c.loop-i.i (omega arith) c.in-Some.first
    (subst (λ f. IsFirst (option_copied c.args.client) c.args.regions.now c.args.healthy.now
    (not c.some_healthy-all.result) c.loop-i.i f) c.in-Some.is c.loop-i.invariant)
