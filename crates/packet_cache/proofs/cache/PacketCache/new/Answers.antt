use Rattle.std.proofs.Common.{subst, sym, replicate, arith}
use Rattle.packet_cache.specs.Kept.{KeepsNothing}
use Rattle.packet_cache.specs.Places.{AreOfThePast, free, kept_at}
use Rattle.packet_cache.specs.declared.places.TheConstants.{PLACES}
use Rattle.packet_cache.proofs.Generations.{free_ones, nothing_yet}
use Rattle.packet_cache.proofs.cache.PacketCache.new.Goals as goal

pub invariant_of-result : goal.invariant_of-result
invariant_of-result c i place is =
    grind (arith, subst (λ items. AreOfThePast 0 items) (sym c.lay_free.ensures) (free_ones PLACES) i place is)

pub returns : goal.returns
returns c = subst (λ items. KeepsNothing (kept_at 1 items)) (sym c.lay_free.ensures)
    (nothing_yet 0 (replicate PLACES free) (free_ones PLACES))
