use Rattle.std.proofs.Common.{◌≡◌, drop}
use Rattle.geo_latency.specs.Regions.{latency_of}
use Rattle.geo_latency.proofs.latencies.latency_under.Given as goal

abbrev pub invariant-loop-i : goal.invariant-loop-i
invariant-loop-i l = latency_of (drop l.i l.rows) l.bytes ≡ latency_of l.rows l.bytes
