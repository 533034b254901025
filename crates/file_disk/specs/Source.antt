-- A file as a source, as its callers see it.
use Rattle.std.specs.Prelude.{◌≡◌, ◌≢◌, ℕ, List, [], Option, Some, None}
use Rattle.octets.specs.Counts.{next_count}
use Rattle.r53_io.specs.declared.streams.Got.{Got}
use Rattle.r53_io.specs.declared.streams.Got.TheVariants as got

-- what came of the opening of a file: it is open, it isn't there, or the system refused it
pub data Opening : Type 0 where
  Open : Opening
  Missing : Opening
  Refused : Opening

-- what came of the opening, and the count of faults
pub record FileState : Type 0 where
  pub opening : Opening
  pub faults : ℕ

-- A file that isn't there is empty. Of others nothing is told.
abbrev pub left_of : Opening → Option (List ℕ)
left_of Open = None
left_of Missing = Some []
left_of Refused = None

-- A read leaves a count of one more where it failed. One of a file that isn't there gives nothing and doesn't fail, and one of
-- a file that was refused fails.
abbrev pub AfterRead : FileState → Got → FileState → Type 0
AfterRead old (got.Bytes n) new = (old.opening ≢ Refused) × (old.opening ≡ Missing → n ≡ 0) × (new ≡ old)
AfterRead old got.Failed new = (old.opening ≢ Missing) × (new ≡ record old { faults = next_count old.faults })
