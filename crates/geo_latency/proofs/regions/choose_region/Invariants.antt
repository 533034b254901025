use Rattle.std.specs.Option.{option_copied}
use Rattle.geo_latency.specs.First.{IsFirst}
use Rattle.geo_latency.proofs.regions.choose_region.Given as goal

abbrev pub invariant-loop-i : goal.invariant-loop-i
invariant-loop-i l = IsFirst (option_copied l.client) l.regions l.healthy l.all l.i l.first
