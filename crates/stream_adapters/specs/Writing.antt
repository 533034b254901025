-- A writer as a sink, as its callers see it.
use Rattle.std.specs.Prelude.{◌≡◌, ℕ, ◌<◌, List, Option, Result, MatchResult}
use Rattle.octets.specs.Counts.{next_count}
use Rattle.r53_io.specs.declared.streams.Got.{Got}
use Rattle.r53_io.specs.declared.streams.Got.TheVariants.{Bytes, Failed}

-- the octets that the writer tells as held, and the count of faults
pub record WritingState : Type 0 where
  pub held : Option (List ℕ)
  pub faults : ℕ

-- The count after n octets of so many were taken: one more where none was taken of some, and else the same.
pub record CountsTaken (n len before now : ℕ) : Type 0 where
  pub stuck : n ≡ 0 → 0 < len → now ≡ next_count before
  pub some : 0 < n → now ≡ before
  pub nothing : len ≡ 0 → now ≡ before

-- The count after a write of so many octets.
abbrev pub CountsWrite : Got → (len before now : ℕ) → Type 0
CountsWrite (Bytes n) len before now = CountsTaken n len before now
CountsWrite Failed len before now = now ≡ next_count before

-- What is told of a writer's answer to so many octets, and the count after it.
abbrev pub TellsWritten : {E : Type 0} → Result ℕ E → ℕ → Got → (before now : ℕ) → Type 0
TellsWritten answer len got before now = MatchResult answer
    (λ n. (got ≡ Bytes n) × CountsTaken n len before now)
    (λ _. (got ≡ Failed) × (now ≡ next_count before))
