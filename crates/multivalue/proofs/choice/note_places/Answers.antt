use Rattle.std.proofs.Common.{arith, ◌∙◌, sym, append-nil}
use Rattle.multivalue.proofs.Noted.{at_most_one, noted_more, noted_end}
use Rattle.multivalue.proofs.choice.note_places.Goals as goal

pub loop-i-preserved : goal.loop-i-preserved
loop-i-preserved c =
    let one = c.one_if_considered-count.ensures in
    let so_far = c.loop-i.invariant in
    record {
      few = omega (arith, so_far.few, at_most_one _ _ one);
      noted = noted_more c.args.all c.args.healthy.now c.loop-i.i c.loop-i.places c.loop-i.count _
          (omega arith) (omega (arith, so_far.few)) one
          ∙ so_far.noted;
    }

pub returns-clause-noted : goal.returns-clause-noted
returns-clause-noted c =
    let e = noted_end c.args.all c.args.healthy.now c.loop-i.i (omega arith) in
    sym (rw e (append-nil _)) ∙ c.loop-i.invariant.noted
