-- What closing a file's gate leaves.
use Rattle.std.specs.Prelude.{◌≡◌, ◌⊎◌, ℕ, List, [], ◌∷◌, ◌==◌, if◌then◌else◌, Option, Some}
use Rattle.r53_disk.specs.Disk.{Only}
use Rattle.r53_disk.specs.declared.disk.Done.{Done}
use Rattle.r53_disk.specs.declared.disk.Done.TheVariants as done
use Rattle.gate_journal.specs.Layout.{IsOpen}

-- the file with its gate closed: a gate that is closed already stays, whatever it reads
abbrev pub closed_file : List ℕ → List ℕ
closed_file [] = 0 ∷ []
closed_file (gate ∷ rest) = (if gate == 1 then 0 else gate) ∷ rest

-- the closed file is read, and is the only image
abbrev pub Closes : Done → List ℕ → Option (List ℕ) → (List ℕ → Type 0) → Type 0
Closes done.Whole bytes after images = (after ≡ Some (closed_file bytes)) × Only (closed_file bytes) images
Closes done.Failed bytes after images = (now : List ℕ) × (after ≡ Some now)

-- the file as it was, or one that is not open
abbrev pub IsWholeOrShut : List ℕ → List ℕ → Type 0
IsWholeOrShut bytes file = (file ≡ bytes) ⊎ (¬ IsOpen file)
