use Rattle.std.proofs.Common.{◌≡◌, ◌⊎◌, subst, sym, inl, inr, arith}
use Rattle.packet_cache.specs.Kept.{Keeps, kept_of}
use Rattle.packet_cache.specs.Places.{kept_at, told}
use Rattle.packet_cache.proofs.cache.PacketCache.keep.Goals as goal

pub returns : goal.returns
returns c kept keeps =
    let now : Keeps (kept_at c.self.inside.generation c.put_place.new.places.items) kept =
    subst (λ v. Keeps v kept) c.set_mark-2.ensures keeps in
    by (c.put_place.ensures.kept kept
    (subst (λ g. Keeps (kept_at g c.put_place.new.places.items) kept) (sym c.taken-place.ensures.generation) now))
  where
    by : Keeps (kept_at c.taken-place.result.generation c.self.inside.places.items) kept ⊎ (kept ≡ told c.taken-place.result)
        → Keeps c.args.self.now kept ⊎ (kept ≡ kept_of c.args.packet.now c.args.reply.now)
    by (inl before) = inl (subst (λ v. Keeps v kept) c.self.view_is
        (subst (λ g. Keeps (kept_at g c.self.inside.places.items) kept) c.taken-place.ensures.generation before))
    by (inr is) = inr (grind (arith, is, c.taken-place.ensures.told, c.behind.ensures, c.behind-2.ensures))
