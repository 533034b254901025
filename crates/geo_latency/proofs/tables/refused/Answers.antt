use Rattle.std.proofs.Common.{◌∙◌, sym, refl}
use Rattle.std.proofs.lemmas.Bool.{false≢true}
use Rattle.geo_latency.proofs.Prefixes.{free, not_free}
use Rattle.geo_latency.proofs.tables.refused.Goals as goal

pub returns-then-takes : goal.returns-then-takes
returns-then-takes g c =
    let is = c.takes.ensures.0 c.if-takes.true in
    rw (free c.args.prefix c.args.table.now is.0 is.1) refl

pub returns : goal.returns
returns g c =
    rw (not_free c.args.prefix c.args.table.now
    (λ both. false≢true (sym c.if-takes.false ∙ c.takes.ensures.1 both))) refl
