-- What is left by the first syncs of two files.
use Rattle.std.proofs.Common.{inr, ℕ, List, Result, Ok, Err, Vec}
use Rattle.std.specs.declared.alloc.Global.{Global}
use Rattle.file_building.specs.Disk.{Same}
use Rattle.zone_journal.specs.Pairs.{BothSynced}
use Rattle.zone_journal.specs.Standing.{State}
use Rattle.zone_journal.specs.Opening.{OpenSyncs}
use Rattle.zone_journal.specs.declared.answers.OpenFault.{OpenFault}
use Rattle.zone_journal.specs.declared.answers.OpenFault.TheVariants as fault

pub same_now : (images : List ℕ → Type 0) → Same images images
same_now images c = (λ now. now, λ now. now)

-- where both files were synced, that is what is left by each answer
pub both : {D : Type 0} (images : D → List ℕ
    → Type 0) (r : Result (State × Vec ℕ Global) OpenFault) (x y : List ℕ)
    (a_old a_new b_old b_new : D)
    → BothSynced images x y a_new b_new → OpenSyncs images r x y a_old a_new b_old b_new
both images (Ok opened) x y a_old a_new b_old b_new synced = synced
both images (Err (fault.NotAStore side place)) x y a_old a_new b_old b_new synced = synced
both images (Err fault.DiskFault) x y a_old a_new b_old b_new synced = inr (inr synced)
both images (Err fault.OutOfMemory) x y a_old a_new b_old b_new synced = inr synced
