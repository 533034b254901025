-- What the calls of a disk do to its file, and what a crash may leave between two syncs.
use Rattle.std.specs.Prelude.{◌≡◌, ◌⊎◌, ◌↔◌, ℕ, ◌+◌, ◌≤◌, max, List, ◌++◌, length, take, drop, ⊤, Option, Some, None}
use Rattle.r53_disk.specs.declared.disk.Done.{Done}
use Rattle.r53_disk.specs.declared.disk.Done.TheVariants as done
use Rattle.r53_disk.specs.declared.disk.Size.{Size}
use Rattle.r53_disk.specs.declared.disk.Size.TheVariants as size

-- a place within the reading, where the disk tells it
abbrev pub Reaches : Option (List ℕ) → ℕ → Type 0
Reaches None n = ⊤
Reaches (Some bytes) n = n ≤ length bytes

-- the same images
abbrev pub Same : (List ℕ → Type 0) → (List ℕ → Type 0) → Type 0
Same old new = (c : List ℕ) → new c ↔ old c

-- A crash leaves this and nothing else.
abbrev pub Only : List ℕ → (List ℕ → Type 0) → Type 0
Only file images = (c : List ℕ) → images c → c ≡ file

-- a file with these bytes at a place of it
abbrev pub written : List ℕ → ℕ → List ℕ → List ℕ
written old at bytes = take at old ++ (bytes ++ drop (at + length bytes) old)

-- After a write of n bytes that a crash cuts short: any bytes in the range and past the old end, the same elsewhere,
-- and an end anywhere in the part past the old end.
pub record Torn (at n : ℕ) (old new : List ℕ) : Type 0 where
  pub before : take at new ≡ take at old
  pub after : drop (at + n) new ≡ drop (at + n) old
  pub no_shorter : length old ≤ length new
  pub no_longer : length new ≤ max (length old) (at + n)

-- an image after such a write: an old image that it tore
abbrev pub TornFrom : ℕ → ℕ → (List ℕ → Type 0) → List ℕ → Type 0
TornFrom at n images c = (old : List ℕ) × images old × Torn at n old c

-- The images after a write. One that failed frees the same bytes, or it tried nothing.
abbrev pub Unsettles : Done → ℕ → ℕ → (List ℕ → Type 0) → (List ℕ → Type 0) → Type 0
Unsettles done.Whole at n old new = Same (TornFrom at n old) new
Unsettles done.Failed at n old new = Same (TornFrom at n old) new ⊎ Same old new

-- the images after a sync of a disk that reads as these bytes
abbrev pub Settles : Done → List ℕ → (List ℕ → Type 0) → (List ℕ → Type 0) → Type 0
Settles done.Whole bytes old new = Only bytes new
Settles done.Failed bytes old new = Same old new

-- What is read after a write. After one that failed it is told still.
abbrev pub WriteLeaves : Done → List ℕ → ℕ → List ℕ → Option (List ℕ) → Type 0
WriteLeaves done.Whole bytes at from after = after ≡ Some (written bytes at from)
WriteLeaves done.Failed bytes at from after = (now : List ℕ) × (after ≡ Some now)

-- the number of the bytes
abbrev pub GivesSize : Size → List ℕ → Type 0
GivesSize (size.Bytes n) bytes = n ≡ length bytes
GivesSize size.Failed bytes = ⊤

-- the slice holds the bytes from that place on
abbrev pub GivesBytes : Done → List ℕ → ℕ → List ℕ → Type 0
GivesBytes done.Whole bytes at into = into ≡ take (length into) (drop at bytes)
GivesBytes done.Failed bytes at into = ⊤

-- A call that writes nothing: the disk reads the same, and a crash leaves what it left before.
pub record Rests {D : Type 0} (reading : D → Option (List ℕ)) (images : D → List ℕ → Type 0) (moment : D → ℕ) (images_since : D → ℕ → List ℕ → Type 0) (old new : D) : Type 0 where
  pub reads : reading new ≡ reading old
  pub leaves : Same (images old) (images new)
  pub at_moment : moment new ≡ moment old
  pub since : (t : ℕ) → Same (images_since old t) (images_since new t)

-- Time goes on: a crash since t might have left what it might have left before, or what it may leave now.
pub record Elapses {D : Type 0} (moment : D → ℕ) (images_since : D → ℕ → List ℕ → Type 0) (images : D → List ℕ → Type 0) (old new : D) : Type 0 where
  pub later : moment old ≤ moment new
  pub nothing_else : (t : ℕ) (c : List ℕ) → t ≤ moment old → images_since new t c → images_since old t c ⊎ images new c
  pub keeps : (t : ℕ) (c : List ℕ) → t ≤ moment old → images_since old t c → images_since new t c

-- A crash at any moment since old leaves a file that has P.
pub record LeavesOnly {D : Type 0} (moment : D → ℕ) (images_since : D → ℕ → List ℕ → Type 0) (old new : D) (P : List ℕ → Type 0) : Type 0 where
  pub later : moment old ≤ moment new
  pub each : (c : List ℕ) → images_since new (moment old) c → P c
  -- for a run that began earlier
  pub before : (t : ℕ) (c : List ℕ) → t ≤ moment old → images_since new t c → images_since old t c ⊎ P c
