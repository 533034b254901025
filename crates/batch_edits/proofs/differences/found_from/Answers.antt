use Rattle.std.proofs.Common.{refl, arith}
use Rattle.std.proofs.lemmas.Option.{slice_get_within}
use Rattle.change_batch.specs.LentSets.{sets_lent}
use Rattle.batch_edits.proofs.Missing.{next_itself}
use Rattle.batch_edits.proofs.differences.found_from.Goals as goal

pub returns-then-is_at-clause-there : goal.returns-then-is_at-clause-there
returns-then-is_at-clause-there c = λ found.
    (let here = c.is_at.ensures.0 c.if-is_at.true in record {
      place = c.args.from;
      behind = refl;
      there = here;
      first = next_itself (sets_lent c.args.others.now) c.args.set.now c.args.from here;
    })

pub returns-then-is_at-2-clause-within : goal.returns-then-is_at-2-clause-within
returns-then-is_at-2-clause-within c =
    let here = c.is_at-2.ensures.0 c.if-is_at-2.true in
    let within =
    slice_get_within (sets_lent c.args.others.now) c.next_place-place.result c.args.set.now here in
    omega (arith, within)
