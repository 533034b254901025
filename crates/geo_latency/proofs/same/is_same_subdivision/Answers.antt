use Rattle.std.proofs.Common.{◌∙◌}
use Rattle.geo_latency.proofs.Padding.{same_filled}
use Rattle.geo_latency.proofs.same.is_same_subdivision.Goals as goal

pub returns : goal.returns
returns c = c.eq.ensures ∙ same_filled 3 c.args.subdivision.now c.args.other.now
