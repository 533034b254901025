use Rattle.std.proofs.Common.{◌∙◌, Some, ap, arith, refl}
use Rattle.reply_records.proofs.Seeing.{place_in, take_among}
use Rattle.reply_records.proofs.seen.has.Goals as goal

pub returns-then-is_one : goal.returns-then-is_one
returns-then-is_one c = (
  λ e. take_among c.args.values.now c.args.count c.loop-i.i c.args.short.now c.loop-i-test.true
      (c.kept_at.ensures ∙ ap Some (c.is_one.ensures.0 c.if-is_one.true)),
  λ there. refl,
)

pub returns : goal.returns
returns c = (
  λ e. absurd (grind (arith, e)),
  λ there. (let place = place_in c.args.values.now c.args.count c.args.short.now there in
      let behind = c.loop-i-test.false in
      absurd (c.loop-i.invariant place.0 (omega (arith, place.1, behind)) place.2)),
)
