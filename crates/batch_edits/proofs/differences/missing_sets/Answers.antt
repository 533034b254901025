use Rattle.change_batch.specs.LentSets.{sets_lent}
use Rattle.batch_edits.proofs.Missing.{step_sets}
use Rattle.batch_edits.proofs.differences.missing_sets.Goals as goal

pub loop-i-preserved : goal.loop-i-preserved
loop-i-preserved c =
    let sets = sets_lent c.args.sets.now in
    let others = sets_lent c.args.others.now in
    record {
      within = c.in_ok-place.ensures.within;
      found = step_sets sets others c.requires.sets c.requires.others c.loop-i.i c.loop-i.place
          _ c.set_at.result.now c.set_at.ensures c.loop-i.found.items
          c.add_set.new.found.items c.loop-i.invariant.found c.in_ok-place.ensures.adds;
    }
