-- The images of a disk in memory that can be asked for.
use Rattle.std.specs.Prelude.{ℕ, List, [], ◌∷◌, length, replicate}
use Rattle.r53_disk.specs.Disk.{written}
use Rattle.r53_disk.specs.Memory.{History, Trace, Wrote, Tried, Synced, place}
use Rattle.r53_disk.specs.declared.memory.Torn.{Torn}
use Rattle.r53_disk.specs.declared.memory.Torn.TheVariants as torn

-- what is left of a write that began at a place and was done or tried
abbrev pub torn_write : Torn → List ℕ → ℕ → List ℕ → List ℕ
torn_write torn.Kept image at from = written image (place at image) from
torn_write torn.Lost image at from = image
torn_write (torn.Filled value) image at from = written image (place at image) (replicate (length from) value)

-- what these steps leave, from the reading and the image before them
abbrev pub torn_after : Torn → List ℕ → List ℕ → List Trace → List ℕ
torn_after torn bytes image [] = image
torn_after torn bytes image (Wrote at from ∷ steps) =
    torn_after torn (written bytes (place at bytes) from) (torn_write torn image (place at bytes) from) steps
torn_after torn bytes image (Tried at from ∷ steps) =
    torn_after torn bytes (torn_write torn image (place at bytes) from) steps
torn_after torn bytes image (Synced ∷ steps) = torn_after torn bytes bytes steps

abbrev pub image_of : Torn → History → List ℕ
image_of torn h = torn_after torn h.first h.first h.steps
