-- The steps of a turn: a line that is taken, a rest that is dropped.
use Rattle.std.specs.Prelude.{◌≡◌, ℕ, ◌≤◌, List, [], length, true, false, None, ⊤}
use Rattle.line_splitting.specs.Lines.{Line, TooLong, most_bytes}
use Rattle.line_splitting.specs.Judging.{end_place}
use Rattle.line_splitting.specs.Reading.{Reader, GivesLine, events, waiting_whole, steps, whole}
use Rattle.line_splitting.specs.declared.judging.Dropped.TheVariants as dropped
use Rattle.line_splitting.specs.declared.judging.Told.{Told}
use Rattle.line_splitting.specs.declared.judging.Told.TheVariants as told

-- Blank lines are gone, and all others are to come.
pub record DropsBlanks (old new : Reader) : Type 0 where
  pub ready : waiting_whole new ≡ waiting_whole old
  pub events : (left : List ℕ) → events new left ≡ events old left
  pub whole : old.ended ≡ false → (seen : List ℕ) → whole new seen ≡ whole old seen
  pub ended : new.ended ≡ old.ended
  pub budget : new.budget ≡ old.budget
  pub nearer : steps new ≤ steps old

-- what was told of the first line that waits, which is taken
abbrev pub Takes : (old : Reader) → Told → (new : Reader) → Type 0
Takes old told.Nothing new = DropsBlanks old new
Takes old told.Line new = GivesLine old (Line new.line) new
Takes old told.TooLong new = GivesLine old TooLong new

abbrev pub IfNothing : Told → Type 0 → Type 0
IfNothing told.Nothing P = P
IfNothing told.Line P = ⊤
IfNothing told.TooLong P = ⊤

-- No line waits whole.
pub record IsUnended (r : Reader) : Type 0 where
  pub no_end : end_place r.waiting ≡ None
  pub over : r.ended ≡ true → (r.waiting ≡ []) × (r.dropped ≡ dropped.Nothing)

-- There is room for a read, and all lines are to come.
pub record HasRoom (old new : Reader) : Type 0 where
  pub events : (left : List ℕ) → events new left ≡ events old left
  pub whole : (seen : List ℕ) → whole new seen ≡ whole old seen
  pub ended : new.ended ≡ old.ended
  pub budget : new.budget ≡ old.budget
  pub nearer : steps new ≤ steps old
  pub room : length new.waiting ≤ most_bytes
