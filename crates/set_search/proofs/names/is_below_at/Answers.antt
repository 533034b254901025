use Rattle.std.proofs.Common.{arith}
use Rattle.set_search.proofs.Lookups.{filled}
use Rattle.set_search.proofs.names.is_below_at.Goals as goal

pub returns : goal.returns
returns g c =
    let sets = g.S.SetList.sets c.args.sets.now in
    let count = c.count.ensures in
    let inside = c.if-place-count.false in
    let y = filled sets c.args.place (omega (arith, count, inside)) in
    let below = c.is_below.ensures y.0 y.1 in (
      (λ h. (y.0, y.1, below.0 h)),
      λ x. (c.is_below.ensures x.0 x.1).1 x.2,
    )
