-- A disk in memory, as what it has been through: what it reads as, and what a crash may leave.
use Rattle.std.specs.Prelude.{◌≡◌, ◌⊎◌, ℕ, ◌+◌, ◌<◌, min, ◌≤◌, List, [], ◌∷◌, ◌++◌, length, take}
use Rattle.std.specs.List.{Contains}
use Rattle.octets.specs.Counts.{next_count}
use Rattle.r53_disk.specs.Disk.{TornFrom, written}
use Rattle.r53_disk.specs.declared.disk.Done.{Done}
use Rattle.r53_disk.specs.declared.disk.Done.TheVariants as done
use Rattle.r53_disk.specs.declared.disk.Size.{Size}
use Rattle.r53_disk.specs.declared.disk.Size.TheVariants as size

-- a step that a crash can tell from none: a write that was done, one that failed, or a sync that succeeded
pub data Trace : Type 0 where
  Wrote : (at : ℕ) (from : List ℕ) → Trace
  Tried : (at : ℕ) (from : List ℕ) → Trace
  Synced : Trace

-- where a write begins: none begins past the end
abbrev pub place : ℕ → List ℕ → ℕ
place at bytes = min at (length bytes)

-- What is read after these steps, from what is read before them. A write that failed leaves it.
abbrev pub reading_after : List ℕ → List Trace → List ℕ
reading_after bytes [] = bytes
reading_after bytes (Wrote at from ∷ steps) = reading_after (written bytes (place at bytes) from) steps
reading_after bytes (Tried at from ∷ steps) = reading_after bytes steps
reading_after bytes (Synced ∷ steps) = reading_after bytes steps

-- The images after these steps, from those before them. A write that failed tears like one that was done.
abbrev pub ImagesAfter : List ℕ → (List ℕ → Type 0) → List Trace → List ℕ → Type 0
ImagesAfter bytes images [] c = images c
ImagesAfter bytes images (Wrote at from ∷ steps) c =
    ImagesAfter (written bytes (place at bytes) from) (TornFrom (place at bytes) (length from) images) steps c
ImagesAfter bytes images (Tried at from ∷ steps) c =
    ImagesAfter bytes (TornFrom (place at bytes) (length from) images) steps c
ImagesAfter bytes images (Synced ∷ steps) c = ImagesAfter bytes (λ file. file ≡ bytes) steps c

-- What a disk in memory has been through: what stood there when it was made, and each step since; its room, the numbers
-- of the calls that fail, the number of the next call, its count of faults, and that of the calls that found no memory.
pub record History : Type 0 where
  pub first : List ℕ
  pub steps : List Trace
  pub room : ℕ
  pub fail : List ℕ
  pub calls : ℕ
  pub faults : ℕ
  pub starved : ℕ

abbrev pub reading_of : History → List ℕ
reading_of h = reading_after h.first h.steps

abbrev pub IsImage : History → List ℕ → Type 0
IsImage h c = ImagesAfter h.first (λ file. file ≡ h.first) h.steps c

-- a crash after the first k of the steps may leave this
abbrev pub IsImageAfter : History → ℕ → List ℕ → Type 0
IsImageAfter h k c = ImagesAfter h.first (λ file. file ≡ h.first) (take k h.steps) c

abbrev pub IsImageSince : History → ℕ → List ℕ → Type 0
IsImageSince h t c = (k : ℕ) × (t ≤ k) × (k ≤ length h.steps) × IsImageAfter h k c

-- The next call is one of those that fail.
abbrev pub IsToFail : History → Type 0
IsToFail h = Contains h.fail h.calls

-- The next call, a write, is one of those that fail, or it goes past the room.
abbrev pub IsRefused : History → ℕ → List ℕ → Type 0
IsRefused h at from = IsToFail h ⊎ (h.room < at + length from)

-- after a call that did what it was asked, or that failed
abbrev pub called : History → History
called old = record old { calls = next_count old.calls }

abbrev pub failed : History → History
failed old = record (called old) { faults = next_count old.faults }

-- after a call that found no memory, which tried nothing
abbrev pub starved : History → History
starved old = record (failed old) { starved = next_count old.starved }

-- Each call and what comes of it: a case for each answer, so that it fails exactly where it is said.
abbrev pub AfterSize : History → Size → History → Type 0
AfterSize old (size.Bytes n) new = (¬ IsToFail old) × (n ≡ length (reading_of old)) × (new ≡ called old)
AfterSize old size.Failed new = IsToFail old × (new ≡ failed old)

abbrev pub AfterRead : History → Done → History → Type 0
AfterRead old done.Whole new = (¬ IsToFail old) × (new ≡ called old)
AfterRead old done.Failed new = IsToFail old × (new ≡ failed old)

abbrev pub AfterWrite : History → Done → ℕ → List ℕ → History → Type 0
AfterWrite old done.Whole at from new =
    (¬ IsRefused old at from) × (new ≡ record (called old) { steps = old.steps ++ Wrote at from ∷ [] })
AfterWrite old done.Failed at from new =
    (IsRefused old at from × (new ≡ record (failed old) { steps = old.steps ++ Tried at from ∷ [] }))
    ⊎ (new ≡ starved old)

abbrev pub AfterSync : History → Done → History → Type 0
AfterSync old done.Whole new = (¬ IsToFail old) × (new ≡ record (called old) { steps = old.steps ++ Synced ∷ [] })
AfterSync old done.Failed new = (IsToFail old × (new ≡ failed old)) ⊎ (new ≡ starved old)
