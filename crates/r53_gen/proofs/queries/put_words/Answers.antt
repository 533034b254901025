use Rattle.std.proofs.Common.{arith, take, ◌∙◌}
use Rattle.r53_gen.proofs.Listing.{next_end, next_text}
use Rattle.r53_gen.specs.Lines.{word}
use Rattle.r53_gen.proofs.queries.put_words.Goals as goal

pub loop-i-preserved : goal.loop-i-preserved
loop-i-preserved c = record {
  text = next_text (word c.args.j) c.loop-i.i (take c.args.at c.args.into.now) _ _ _ c.loop-i.invariant.text
      c.put_comma-at.ensures.text c.put_number-at.ensures.text;
  end = next_end (word c.args.j) c.loop-i.i c.args.at _ _ _ c.loop-i.invariant.end c.put_comma-at.ensures.end
      c.put_number-at.ensures.end;
  within = omega (arith, c.loop-i.invariant.within, c.put_comma-at.ensures.within, c.put_number-at.ensures.within);
  room = c.put_number-at.ensures.room ∙ c.put_comma-at.ensures.room ∙ c.loop-i.invariant.room;
}
