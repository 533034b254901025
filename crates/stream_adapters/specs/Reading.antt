-- A reader as a source, as its callers see it.
use Rattle.std.specs.Prelude.{◌≡◌, ℕ, List, Option, drop, Result, MatchResult}
use Rattle.octets.specs.Counts.{next_count}
use Rattle.r53_io.specs.declared.streams.Got.{Got}
use Rattle.r53_io.specs.declared.streams.Got.TheVariants.{Bytes, Failed}

-- the octets that the reader tells as left, and the count of faults
pub record ReadingState : Type 0 where
  pub left : Option (List ℕ)
  pub faults : ℕ

-- The count after a read: one more where it failed, and the same where it didn't.
abbrev pub CountsRead : Got → (before now : ℕ) → Type 0
CountsRead (Bytes n) before now = now ≡ before
CountsRead Failed before now = now ≡ next_count before

-- What is told of a reader's answer, and the count after it.
abbrev pub TellsRead : {E : Type 0} → Result ℕ E → Got → (before now : ℕ) → Type 0
TellsRead answer got before now = MatchResult answer
    (λ n. (got ≡ Bytes n) × (now ≡ before))
    (λ _. (got ≡ Failed) × (now ≡ next_count before))

-- What a read leaves of the slice: all that stands behind what was read, and all of it where it failed.
abbrev pub StaysBehind : Got → (old new : List ℕ) → Type 0
StaysBehind (Bytes n) old new = drop n new ≡ drop n old
StaysBehind Failed old new = new ≡ old

abbrev pub KeepsBehind : {E : Type 0} → Result ℕ E → (old new : List ℕ) → Type 0
KeepsBehind answer old new = MatchResult answer (λ n. drop n new ≡ drop n old) (λ _. new ≡ old)
