use Rattle.std.proofs.Common.{◌∙◌, ◌++◌, ◌∷◌, [], List, ap, arith}
use Rattle.std.proofs.lemmas.List.{replicate-append-replicate}
use Rattle.packet_cache.specs.Places.{free}
use Rattle.packet_cache.specs.declared.places.Place.{Place}
use Rattle.packet_cache.proofs.cache.lay_free.Goals as goal

pub loop-i-preserved : goal.loop-i-preserved
loop-i-preserved c = record {
  within = let below = c.loop-i-test.true in omega (arith, below);
  items = c.push_reserved.ensures.items
      ∙ (ap (λ (places : List Place). places ++ free ∷ []) c.loop-i.invariant.items
      ∙ replicate-append-replicate c.loop-i._i 1 free);
  room = c.push_reserved.ensures.capacity ∙ c.loop-i.invariant.room;
}
