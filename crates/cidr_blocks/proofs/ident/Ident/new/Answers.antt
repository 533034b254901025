use Rattle.std.proofs.Common.{refl}
use Rattle.routing.proofs.Padding.{filled}
use Rattle.cidr_blocks.specs.Idents.{IsNameOrStar}
use Rattle.cidr_blocks.proofs.ident.Ident.new.Goals as goal

pub invariant_of-result : goal.invariant_of-result
invariant_of-result c =
    filled IsNameOrStar c.args.bytes.now c.fill_front.new.buffer 64 c.fill_front.ensures
    (c.if-not-is_ident.ensures.0 refl)
