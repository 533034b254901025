use Rattle.std.proofs.Common.{Some, arith, subst, sym}
use Rattle.geo_latency.proofs.Ranks.{comes, stays}
use Rattle.geo_latency.specs.Nearest.{IsFirstRank, with_set}
use Rattle.geo_latency.proofs.places.with_set.Goals as goal

pub returns-then-rank-nearest-clause-leads : goal.returns-then-rank-nearest-clause-leads
returns-then-rank-nearest-clause-leads c lists eight leads =
    subst (λ o. IsFirstRank c.args.nearest.rank c.args.nearest.set
    (with_set c.args.healthy o c.args.set lists)) c.in-Some.ensures
    (stays lists eight _ _ c.args.set leads c.in-Some.size c.args.healthy
    (omega (arith, c.rank_of-rank.ensures.rank, c.if-rank-nearest.true)))

pub returns-clause-leads : goal.returns-clause-leads
returns-clause-leads c lists eight leads =
    subst (λ o. IsFirstRank c.rank_of-rank.result c.args.set
    (with_set c.args.healthy o c.args.set lists)) c.in-Some.ensures
    (subst (λ r. IsFirstRank r c.args.set
    (with_set c.args.healthy (Some c.in-Some.size) c.args.set lists))
    (sym c.rank_of-rank.ensures.rank)
    (comes lists eight _ _ c.args.set leads c.in-Some.size c.args.healthy
    (omega (arith, c.rank_of-rank.ensures.rank, c.if-rank-nearest.false))))
