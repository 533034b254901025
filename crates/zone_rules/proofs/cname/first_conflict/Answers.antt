use Rattle.std.proofs.Common.{below_more, arith}
use Rattle.zone_rules.proofs.Conflicts.{first_name, none_conflicts}
use Rattle.zone_rules.proofs.Lending.{past}
use Rattle.zone_rules.specs.Lent.{sets_lent}
use Rattle.zone_rules.proofs.cname.first_conflict.Goals as goal

pub returns-then-is_conflicted : goal.returns-then-is_conflicted
returns-then-is_conflicted c =
    let sets = sets_lent c.args.sets.now in
    let i = c.loop-i.i in
    first_name sets c.args.apex.now i c.set_at.result.now c.requires c.set_at.ensures
    (c.is_conflicted.ensures.0 c.if-is_conflicted.true) c.loop-i.invariant

pub loop-i-preserved : goal.loop-i-preserved
loop-i-preserved c =
    below_more _ _ c.loop-i.invariant (λ b. let t = c.is_conflicted.ensures.1 b in let f =
    c.if-is_conflicted.false in grind (arith, t, f))

pub returns : goal.returns
returns c =
    λ i h. none_conflicts (sets_lent c.args.sets.now) c.args.apex.now c.requires
    (λ j lt. c.loop-i.invariant j (let t = past c.args.sets.now c.loop-i.i c.loop-i-test.false in omega (arith, t, lt))) i
