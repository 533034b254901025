use Rattle.std.proofs.Common.{arith, length, ◌∙◌}
use Rattle.r53_gen.proofs.Listing.{next_end, next_text}
use Rattle.r53_gen.specs.Lines.{opening, weighted_sets}
use Rattle.r53_gen.proofs.changes.put_leaves.Goals as goal

pub loop-i-preserved : goal.loop-i-preserved
loop-i-preserved c = record {
  text = next_text weighted_sets c.loop-i.i opening _ _ _ c.loop-i.invariant.text c.put_comma-at.ensures.text
      c.put_weighted_sets-at.ensures.text;
  end = next_end weighted_sets c.loop-i.i (length opening) _ _ _ c.loop-i.invariant.end c.put_comma-at.ensures.end
      c.put_weighted_sets-at.ensures.end;
  within = omega (arith, c.loop-i.invariant.within, c.put_comma-at.ensures.within, c.put_weighted_sets-at.ensures.within);
  room = c.put_weighted_sets-at.ensures.room ∙ c.put_comma-at.ensures.room ∙ c.loop-i.invariant.room;
}
