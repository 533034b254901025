use Rattle.std.proofs.Common.{arith}
use Rattle.set_search.proofs.Below.{first_tells, none_exists}
use Rattle.set_search.proofs.Lookups.{filled}
use Rattle.set_search.proofs.names.exists_in.Goals as goal

pub returns-then-first-count : goal.returns-then-first-count
returns-then-first-count g c =
    let sets = g.S.SetList.sets c.args.sets.now in
    let n = c.first_named-first.result in
    let count = c.count.ensures in
    let inside = c.if-first-count.true in
    let x = filled sets n (omega (arith, count, inside)) in
    let t = first_tells sets c.args.name.now n c.requires c.first_named-first.ensures x.0 x.1 in
    let below = c.is_below.ensures x.0 x.1 in
    (λ h. t.0 (below.0 h), λ h. below.1 (t.1 h))

pub returns-else-first-count : goal.returns-else-first-count
returns-else-first-count g c =
    let count = c.count.ensures in
    let past = c.if-first-count.false in (
      (λ h. absurd (grind (arith, h, past))),
      λ h. absurd
          (none_exists (g.S.SetList.sets c.args.sets.now) c.args.name.now c.first_named-first.result
          c.requires c.first_named-first.ensures (omega (arith, count, past)) h),
    )
