use Rattle.std.proofs.Common.{refl}
use Rattle.routing.specs.Texts.{IsRegion}
use Rattle.routing.proofs.Padding.{filled}
use Rattle.routing.proofs.texts.Region.new.Goals as goal

pub invariant_of-result : goal.invariant_of-result
invariant_of-result c =
    filled IsRegion c.args.bytes.now c.fill_front.new.buffer 32 c.fill_front.ensures
    (c.if-not-is_text.ensures.0 refl)
