-- The steps of a reading: a line that is taken, the lines that wait whole, and all of an input.
use Rattle.std.specs.Prelude.{◌≡◌, ℕ, ◌+◌, ◌<◌, ◌≤◌, Bool, false, List, [], ◌++◌, length, take, drop}
use Rattle.std.specs.Prelude.{nat_le, Option, None, Some, Result, Ok, Err, ⊤}
use Rattle.geo_latency.specs.declared.tables.Tables.{Tables}
use Rattle.line_splitting.specs.Judging.{end_place}
use Rattle.table_lines.specs.Input.{last_piece, most_octets, octets_from}
use Rattle.table_lines.specs.declared.reading.Added.{Added}
use Rattle.table_lines.specs.declared.reading.Added.TheVariants as added
use Rattle.table_lines.specs.declared.reading.TablesFault.{TablesFault}
use Rattle.table_lines.specs.declared.reading.TablesFault.TheVariants as fault
use Rattle.table_lines.specs.declared.waiting.First.{First}
use Rattle.table_lines.specs.declared.waiting.First.TheVariants as first
use Rattle.table_lines.specs.declared.waiting.Taken.{Taken}
use Rattle.table_lines.specs.declared.waiting.Taken.TheVariants as taken

-- What comes of octets with a line in front is what comes of those behind it, with its row added.
abbrev pub GoesOn : (old : Tables) → (number : ℕ) → (octets : List ℕ) → (new : Tables) → (next : ℕ)
    → (rest : List ℕ) → Type 0
GoesOn old number octets new next rest = (goes_on : Bool) (x : List ℕ)
    → octets_from goes_on old number (octets ++ x) ≡ octets_from goes_on new next (rest ++ x)

-- Whatever stands behind these octets, the line of this number is bad.
abbrev pub IsBadIn : (old : Tables) → (number : ℕ) → (octets : List ℕ) → (bad : ℕ) → Type 0
IsBadIn old number octets bad = (goes_on : Bool) (x : List ℕ)
    → octets_from goes_on old number (octets ++ x) ≡ Err (fault.Bad bad)

-- The begin of a line, within the most octets of one.
abbrev pub IsUnended : List ℕ → Type 0
IsUnended waiting = (end_place waiting ≡ None) × (length waiting ≤ most_octets)

abbrev pub TakesFirst : (old : Tables) → (waiting : List ℕ) → First → (new : Tables) → Type 0
TakesFirst old waiting first.Unended new = IsUnended waiting × (new ≡ old)
TakesFirst old waiting (first.Line n) new = (0 < n) × (n ≤ length waiting)
    × ((number : ℕ) → GoesOn old number waiting new (number + 1) (drop n waiting))
TakesFirst old waiting first.Bad new = (number : ℕ) → IsBadIn old number waiting number
TakesFirst old waiting first.OutOfMemory new = ⊤

-- What waits behind the lines begins at a place.
abbrev pub TakesLines : (old : Tables) → (waiting : List ℕ) → (number : ℕ) → Taken → (new : Tables)
    → Type 0
TakesLines old waiting number (taken.Waits start next) new = (start ≤ length waiting)
    × (next ≤ number + start) × IsUnended (drop start waiting)
    × GoesOn old number waiting new next (drop start waiting)
TakesLines old waiting number (taken.Bad bad) new = IsBadIn old number waiting bad
TakesLines old waiting number taken.OutOfMemory new = ⊤

-- What waits behind the lines stands in front of the buffer.
abbrev pub TakesAll : (old : Tables) → (waiting : List ℕ) → (number : ℕ) → Taken → (new : Tables)
    → (buffer : List ℕ) → Type 0
TakesAll old waiting number (taken.Waits len next) new buffer = (len ≤ length waiting)
    × (next + len ≤ number + length waiting) × (len ≤ length buffer) × IsUnended (take len buffer)
    × GoesOn old number waiting new next (take len buffer)
TakesAll old waiting number (taken.Bad bad) new buffer = IsBadIn old number waiting bad
TakesAll old waiting number taken.OutOfMemory new buffer = ⊤

-- what comes of the last line of an input
abbrev pub TakesLast : (old : Tables) → (line : List ℕ) → (number : ℕ) → Added → (new : Tables)
    → Type 0
TakesLast old line number added.Whole new = last_piece false old number line ≡ Ok new
TakesLast old line number (added.Bad bad) new = last_piece false old number line ≡ Err (fault.Bad bad)
TakesLast old line number added.OutOfMemory new = ⊤
TakesLast old line number added.TooLong new = ⊥
TakesLast old line number added.ReadFault new = ⊥

-- what an input of at most so many octets comes to
abbrev pub limited : (most : ℕ) → Tables → (input : List ℕ) → Result Tables TablesFault
limited most tables input = octets_from (nat_le most (length input)) tables 1 (take most input)

abbrev pub AddsAll : (most : ℕ) → (old : Tables) → (input : List ℕ) → (after : Option (List ℕ))
    → Added → (new : Tables) → Type 0
AddsAll most old input after added.Whole new = (limited most old input ≡ Ok new) × (after ≡ Some [])
AddsAll most old input after (added.Bad number) new = limited most old input ≡ Err (fault.Bad number)
AddsAll most old input after added.TooLong new =
    (limited most old input ≡ Err fault.TooLong) × (after ≡ Some (drop most input))
AddsAll most old input after added.ReadFault new = ⊤
AddsAll most old input after added.OutOfMemory new = ⊤

-- What the source has left behind so many octets that were read, and what comes of it behind what
-- waits, is what comes of the whole input.
pub record IsReadSoFar (most : ℕ) (old : Tables) (input : List ℕ) (after : Option (List ℕ)) (read : ℕ)
    (tables : Tables) (number : ℕ) (waiting : List ℕ) : Type 0 where
  pub within : read ≤ length input
  pub rest : after ≡ Some (drop read input)
  pub comes : limited most old input
      ≡ octets_from (nat_le most (length input)) tables number (waiting ++ drop read (take most input))
