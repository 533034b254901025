use Rattle.std.proofs.Common.{Some, ap, ◌∙◌}
use Rattle.geo_latency.proofs.Fields.{a_region, no_region}
use Rattle.geo_latency.proofs.rows.read_region.Goals as goal

pub returns-in_default : goal.returns-in_default
returns-in_default c = no_region c.args.text.now c.in_default.ensures

pub returns : goal.returns
returns c = ap Some (c.in-Some.ensures.1) ∙ a_region c.args.text.now (c.in-Some.ensures.0)
