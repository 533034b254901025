-- Images of a disk that was made with the bytes 1 2 3: what is kept, what is lost, and what is
-- filled with 7.
use Rattle.std.proofs.Common.{◌≡◌, List, [], ◌∷◌, refl}
use Rattle.r53_disk.specs.Memory.{Trace, Wrote, Tried, Synced, reading_after}
use Rattle.r53_disk.specs.Images.{torn_after}
use Rattle.r53_disk.specs.declared.memory.Torn.TheVariants as torn

-- 9 8 written over the last byte and past the end
abbrev written_past : List Trace
written_past = Wrote 2 (9 ∷ 8 ∷ []) ∷ []

pub read : reading_after (1 ∷ 2 ∷ 3 ∷ []) written_past ≡ 1 ∷ 2 ∷ 9 ∷ 8 ∷ []
read = refl

pub kept : torn_after torn.Kept (1 ∷ 2 ∷ 3 ∷ []) (1 ∷ 2 ∷ 3 ∷ []) written_past ≡ 1 ∷ 2 ∷ 9 ∷ 8 ∷ []
kept = refl

pub lost : torn_after torn.Lost (1 ∷ 2 ∷ 3 ∷ []) (1 ∷ 2 ∷ 3 ∷ []) written_past ≡ 1 ∷ 2 ∷ 3 ∷ []
lost = refl

pub filled : torn_after (torn.Filled 7) (1 ∷ 2 ∷ 3 ∷ []) (1 ∷ 2 ∷ 3 ∷ []) written_past
    ≡ 1 ∷ 2 ∷ 7 ∷ 7 ∷ []
filled = refl

-- a write that failed is not read, and tears like one that was done
pub tried_read : reading_after (1 ∷ 2 ∷ 3 ∷ []) (Tried 2 (9 ∷ 8 ∷ []) ∷ []) ≡ 1 ∷ 2 ∷ 3 ∷ []
tried_read = refl

pub tried_kept : torn_after torn.Kept (1 ∷ 2 ∷ 3 ∷ []) (1 ∷ 2 ∷ 3 ∷ []) (Tried 2 (9 ∷ 8 ∷ []) ∷ [])
    ≡ 1 ∷ 2 ∷ 9 ∷ 8 ∷ []
tried_kept = refl

-- a sync leaves what is read
pub synced_lost : torn_after torn.Lost (1 ∷ 2 ∷ 3 ∷ []) (1 ∷ 2 ∷ 3 ∷ []) (Wrote 0 (9 ∷ []) ∷ Synced
    ∷ Wrote 1 (8 ∷ []) ∷ []) ≡ 9 ∷ 2 ∷ 3 ∷ []
synced_lost = refl
