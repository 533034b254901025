use Rattle.std.proofs.Common.{ap, ◌∙◌}
use Rattle.std.specs.Option.{is_some}
use Rattle.geo_latency.proofs.Listed.{told}
use Rattle.geo_latency.proofs.several.has_region.Goals as goal

pub returns : goal.returns
returns c =
    c.is_some.ensures ∙ ap is_some c.latency_in.ensures
    ∙ told c.args.rows.now c.args.region.now
