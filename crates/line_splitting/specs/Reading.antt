-- A reader of lines, as its callers see it: what is still to come of it and of its source.
use Rattle.std.specs.Prelude.{◌≡◌, ℕ, ◌+◌, ◌*◌, ◌-◌, ◌<◌, ◌≤◌, List, [], ◌∷◌, ◌++◌, length, take, drop}
use Rattle.std.specs.Prelude.{Bool, true, false, ◌&&◌, ◌==◌, nat_le, if◌then◌else◌, Option, Some, ⊤}
use Rattle.std.specs.Prelude.{IsTrue, ◌↔◌, not}
use Rattle.line_splitting.specs.Lines.{Event, Line, TooLong, is_blank, events_of_line, events_of}
use Rattle.line_splitting.specs.Lines.{but_last, ended_pieces, input_limit, input_lines, is_too_long, pieces}
use Rattle.line_splitting.specs.declared.judging.Dropped.{Dropped}
use Rattle.line_splitting.specs.declared.judging.Dropped.TheVariants as dropped
use Rattle.line_splitting.specs.declared.reader.Next.{Next}
use Rattle.line_splitting.specs.declared.reader.Next.TheVariants as next

-- A reader: the line that it gave last; the bytes that were taken from the source and wait,
-- from the first that is not given; what was dropped of the line that they begin with; whether
-- the source was seen to end; and how many bytes it may still take.
pub record Reader : Type 0 where
  pub line : List ℕ
  pub waiting : List ℕ
  pub dropped : Dropped
  pub ended : Bool
  pub budget : ℕ

abbrev pub fresh : Reader
fresh = record {
  line = [];
  waiting = [];
  dropped = dropped.Nothing;
  ended = false;
  budget = input_limit;
}

-- What comes of a line that ends behind this piece. Of a line that is too long, or blank so far,
-- what stood before it is dropped.
abbrev pub ending : Dropped → List ℕ → List Event
ending dropped.Nothing line = events_of_line line
ending dropped.Blanks piece = if is_blank piece then [] else TooLong ∷ []
ending dropped.Text piece = TooLong ∷ []

-- the same of lines of which the first is begun
abbrev pub begun : Dropped → List (List ℕ) → List Event
begun before [] = []
begun before (piece ∷ more) = ending before piece ++ events_of more

-- what the reader takes of what its source has left
abbrev pub to_come : Reader → (left : List ℕ) → List ℕ
to_come r left = if r.ended then [] else take r.budget left

-- whether that is not all
abbrev pub is_over_limit : Reader → (left : List ℕ) → Bool
is_over_limit r left = not r.ended && nat_le r.budget (length left)

-- the lines to come, where the source has these bytes left
abbrev pub events : Reader → (left : List ℕ) → List Event
events r left = begun r.dropped (ended_pieces (is_over_limit r left) (r.waiting ++ to_come r left))

-- the lines that wait whole
abbrev pub waiting_whole : Reader → List Event
waiting_whole r = begun r.dropped (ended_pieces (not r.ended) r.waiting)

-- the lines that would wait whole, where these bytes stood behind those that wait
abbrev pub whole : Reader → (seen : List ℕ) → List Event
whole r seen = begun r.dropped (ended_pieces (not r.ended) (r.waiting ++ seen))

-- How far the reader is from its end: this falls with each line, and with each read.
abbrev pub is_begun : Dropped → ℕ
is_begun dropped.Nothing = 0
is_begun dropped.Blanks = 1
is_begun dropped.Text = 1

abbrev pub steps : Reader → ℕ
steps r = 2 * r.budget + length r.waiting + is_begun r.dropped + (if r.ended then 0 else 1)

-- The first line that waits is given, and the others are to come.
pub record GivesLine (old : Reader) (event : Event) (new : Reader) : Type 0 where
  pub ready : waiting_whole old ≡ event ∷ waiting_whole new
  pub events : (left : List ℕ) → events old left ≡ event ∷ events new left
  pub whole : old.ended ≡ false → (seen : List ℕ) → whole old seen ≡ event ∷ whole new seen
  pub ended : new.ended ≡ old.ended
  pub budget : new.budget ≡ old.budget
  pub nearer : steps new < steps old

-- No line waits, and none is to come: the source has ended, or its limit is reached.
pub record IsOver (old new : Reader) : Type 0 where
  pub none_ready : waiting_whole old ≡ []
  pub none_left : (left : List ℕ) → events old left ≡ []
  pub none_after : (left : List ℕ) → events new left ≡ []
  pub ended : new.ended ≡ old.ended
  pub budget : new.budget ≡ old.budget

-- No line waits, and the source is read.
pub record ReadsMore (old : Reader) : Type 0 where
  pub ready : waiting_whole old ≡ []
  pub going : old.ended ≡ false
  pub budget : 0 < old.budget

-- what an answer says of the reader, before and after
abbrev pub HasOutcome : (old : Reader) → Next → (new : Reader) → Type 0
HasOutcome old next.Line new = GivesLine old (Line new.line) new
HasOutcome old next.TooLong new = GivesLine old TooLong new
HasOutcome old next.Ended new = IsOver old new × (old.ended ≡ true)
HasOutcome old next.InputTooLong new = IsOver old new × (old.ended ≡ false) × (old.budget ≡ 0)
HasOutcome old next.Read new = ReadsMore old × (steps new < steps old)
HasOutcome old next.Failed new = ReadsMore old × (steps new ≤ steps old)

-- A read took the first of the bytes that were left, and none where none was left. What is to
-- come is what was to come; and the bytes that it took stand behind those that waited.
pub record Took (old : Reader) (left : List ℕ) (new : Reader) (after : Option (List ℕ))
    : Type 0 where
  pub counted : new.budget ≤ old.budget
  pub within : old.budget - new.budget ≤ length left
  pub rest : after ≡ Some (drop (old.budget - new.budget) left)
  pub events : events new (drop (old.budget - new.budget) left) ≡ events old left
  pub is_over_limit : is_over_limit new (drop (old.budget - new.budget) left) ≡ is_over_limit old left
  pub whole : old.ended ≡ false → new.ended ≡ false → (seen : List ℕ)
      → whole new seen ≡ whole old (take (old.budget - new.budget) left ++ seen)
  pub end : IsTrue new.ended ↔ (left ≡ [])

-- A read that failed took nothing.
pub record TookNothing (old : Reader) (left : List ℕ) (new : Reader) (after : Option (List ℕ))
    : Type 0 where
  pub rest : after ≡ Some left
  pub events : events new left ≡ events old left
  pub is_over_limit : is_over_limit new left ≡ is_over_limit old left
  pub whole : old.ended ≡ false → (seen : List ℕ) → whole new seen ≡ whole old seen

-- what an answer says of the bytes that the source had left, and has left after it
abbrev pub Leaves : (old : Reader) → (left : List ℕ) → Next → (new : Reader)
    → (after : Option (List ℕ)) → Type 0
Leaves old left next.Read new after = Took old left new after
Leaves old left next.Failed new after = TookNothing old left new after
Leaves old left next.Line new after = after ≡ Some left
Leaves old left next.TooLong new after = after ≡ Some left
Leaves old left next.Ended new after = after ≡ Some left
Leaves old left next.InputTooLong new after = after ≡ Some left

-- Of a source that is not read, nothing changes.
abbrev pub IfStill : Next → Type 0 → Type 0
IfStill next.Read P = ⊤
IfStill next.Failed P = ⊤
IfStill next.Line P = P
IfStill next.TooLong P = P
IfStill next.Ended P = P
IfStill next.InputTooLong P = P

-- A fresh reader has all lines of its source to come; and of its first bytes those that end within
-- them.
abbrev pub FreshReader : Type 0
FreshReader = (input : List ℕ) → (events fresh input ≡ input_lines input)
    × (is_over_limit fresh input ≡ is_too_long input)
    × (whole fresh input ≡ events_of (but_last (pieces input)))

-- The answer by what waits. Whether a read fails is the source's.
abbrev pub first_of : List Event → Next → Next
first_of (Line line ∷ more) other = next.Line
first_of (TooLong ∷ more) other = next.TooLong
first_of [] other = other

abbrev pub round_of : Reader → Next
round_of r = first_of (waiting_whole r)
    (if r.ended then next.Ended else if r.budget == 0 then next.InputTooLong else next.Read)

abbrev pub as_read : Next → Next
as_read next.Failed = next.Read
as_read next.Read = next.Read
as_read next.Line = next.Line
as_read next.TooLong = next.TooLong
as_read next.Ended = next.Ended
as_read next.InputTooLong = next.InputTooLong

-- What waits determines the answer.
abbrev pub OneOutcome : Type 0
OneOutcome = (old new : Reader) (answer : Next) → HasOutcome old answer new
    → as_read answer ≡ round_of old
