use Rattle.std.proofs.Common.{refl, sym, subst}
use Rattle.geo_latency.proofs.Wanted.{wanted}
use Rattle.geo_latency.specs.Tables.{Adds, is_free}
use Rattle.geo_latency.proofs.tables.Tables.add_line.Goals as goal

pub returns-in-Err : goal.returns-in-Err
returns-in-Err c =
    let tables = c.args.self.now in
    subst (λ r. Adds tables c.args.line.now r tables) (sym c.refused.ensures)
    (wanted tables c.in-Err.prefix c.args.line.now (is_free tables.latencies c.in-Err.prefix) refl
    c.in-Err.ensures.wanted)
