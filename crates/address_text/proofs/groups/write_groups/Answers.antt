use Rattle.std.proofs.Common.{take, drop, length, ◌-◌, get_or, arith, sym, subst}
use Rattle.address_text.specs.Wrote.{Wrote}
use Rattle.address_text.proofs.Placing.{◌then◌}
use Rattle.address_text.proofs.Colons.{groups_more}
use Rattle.address_text.proofs.groups.write_groups.Goals as goal

pub loop-segment-preserved : goal.loop-segment-preserved
loop-segment-preserved c =
    let i = c.loop-segment.invariant in
    let rest = take (length c.args.segments.now - 1) (drop 1 c.args.segments.now) in
    record {
      room = omega (
        arith,
        c.write_group-end-in-loop-segment.ensures.short,
        c.put-end.ensures.end_is,
      );
      wrote = subst (Wrote _ _ _ _)
          (sym (groups_more (get_or c.args.segments.now 0 0) rest c.loop-segment.segment-index
          c.loop-segment-test.true))
          (i.wrote then c.put-end.ensures then c.write_group-end-in-loop-segment.ensures.wrote);
    }
