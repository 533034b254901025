use Rattle.std.proofs.Common.{refl}
use Rattle.packet_cache.proofs.Generations.{put}
use Rattle.packet_cache.proofs.cache.put_place.Goals as goal

pub returns-then-at-len-clause-kept : goal.returns-then-at-len-clause-kept
returns-then-at-len-clause-kept c =
    put c.args.place.generation c.args.places.now.items c.args.at c.args.place refl
