-- A write and its sync.
use Rattle.std.proofs.Common.{◌≡◌, ℕ, List, Option, Some, ◌∙◌}
use Rattle.r53_disk.specs.Disk.{written, Settles}
use Rattle.r53_disk.specs.declared.disk.Done.{Done}
use Rattle.r53_disk.specs.declared.disk.Done.TheVariants as done
use Rattle.r53_disk.specs.Synced.{WritesSynced}

pub keeps : (r : Done) (bytes : List ℕ) (at : ℕ) (from : List ℕ) (mid new : Option (List ℕ))
    (were are : List ℕ → Type 0)
    → mid ≡ Some (written bytes at from) → new ≡ mid
    → ((b : List ℕ) → mid ≡ Some b → Settles r b were are) → WritesSynced r bytes at from new are
keeps done.Whole bytes at from mid new were are is same settles =
    (same ∙ is, settles (written bytes at from) is)
keeps done.Failed bytes at from mid new were are is same settles =
    (written bytes at from, same ∙ is)
