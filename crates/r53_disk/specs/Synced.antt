-- What a crash may leave while one write is made and synced.
use Rattle.std.specs.Prelude.{◌⊎◌, ◌≡◌, ℕ, List, Option, Some}
use Rattle.r53_disk.specs.Disk.{TornFrom, written, Only}
use Rattle.r53_disk.specs.declared.disk.Done.{Done}
use Rattle.r53_disk.specs.declared.disk.Done.TheVariants as done

-- an old image, or one that a write of n bytes tore
abbrev pub OldOrTorn : ℕ → ℕ → (List ℕ → Type 0) → List ℕ → Type 0
OldOrTorn at n images file = images file ⊎ TornFrom at n images file

-- The write is read, and is the only image. After one that failed the reading is told still.
abbrev pub WritesSynced : Done → List ℕ → ℕ → List ℕ → Option (List ℕ) → (List ℕ → Type 0) → Type 0
WritesSynced done.Whole bytes at from after images = (after ≡ Some (written bytes at from)) × Only (written bytes at from) images
WritesSynced done.Failed bytes at from after images = (now : List ℕ) × (after ≡ Some now)
