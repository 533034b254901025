use Rattle.std.proofs.Common.{length, ◌≤◌, arith, sym, subst}
use Rattle.change_batch.specs.LentSets.{sets_lent}
use Rattle.batch_edits.specs.Places.{IsNextPlace}
use Rattle.batch_edits.proofs.Missing.{next_at_end, next_more}
use Rattle.batch_edits.proofs.differences.next_place.Goals as goal

pub loop-place-preserved : goal.loop-place-preserved
loop-place-preserved c =
    next_more (sets_lent c.args.others.now) c.args.set.now c.args.from c.loop-place.place
    c.set_at.result.now c.loop-place.invariant c.set_at.ensures
    (c.comes_before.ensures.0 c.if-not-comes_before.false)

pub returns-clause-next : goal.returns-clause-next
returns-clause-next c =
    let others = sets_lent c.args.others.now in
    let all = c.count-end.ensures in
    let past : length others ≤ c.loop-place.place = omega (arith, all, c.loop-place-test.false) in
    subst (λ n. IsNextPlace others c.args.from c.args.set.now n) (sym all)
    (next_at_end others c.args.set.now c.args.from c.loop-place.place c.requires past
    c.loop-place.invariant)
