use Rattle.packet_cache.proofs.Generations.{nothing_yet}
use Rattle.packet_cache.proofs.cache.PacketCache.clear.Goals as goal

pub returns : goal.returns
returns c = nothing_yet c.self.inside.generation c.self.inside.places.items c.self.invariant
