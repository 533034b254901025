-- The count of an object that tells nothing but its faults: it rises by one where a call fails, and stays otherwise.
use Rattle.std.specs.Prelude.{◌≡◌, ℕ}
use Rattle.octets.specs.Counts.{next_count}
use Rattle.r53_disk.specs.declared.disk.Done.{Done}
use Rattle.r53_disk.specs.declared.disk.Done.TheVariants as done
use Rattle.r53_disk.specs.declared.disk.Size.{Size}
use Rattle.r53_disk.specs.declared.disk.Size.TheVariants as size

abbrev pub IsCounted : Done → (before now : ℕ) → Type 0
IsCounted done.Whole before now = now ≡ before
IsCounted done.Failed before now = now ≡ next_count before

abbrev pub IsSizeCounted : Size → (before now : ℕ) → Type 0
IsSizeCounted (size.Bytes n) before now = now ≡ before
IsSizeCounted size.Failed before now = now ≡ next_count before
