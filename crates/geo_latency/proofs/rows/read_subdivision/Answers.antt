use Rattle.std.proofs.Common.{ap, ◌∙◌}
use Rattle.std.specs.Str.{bytes_eq}
use Rattle.geo_latency.proofs.Fields.{no_part}
use Rattle.geo_latency.proofs.rows.read_subdivision.Goals as goal

pub returns-in_default : goal.returns-in_default
returns-in_default c =
    no_part c.args.text.now (c.if-eq.ensures
    ∙ ap (bytes_eq c.args.text.now) c.as_slice.ensures) c.in_default.ensures
