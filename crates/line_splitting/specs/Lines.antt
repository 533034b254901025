-- The lines of an input. A line ends with byte 0x0A, or with the input's end (own).
use Rattle.std.specs.Prelude.{ℕ, ◌^◌, List, [], ◌∷◌, ◌++◌, length, take, Bool, true, false}
use Rattle.std.specs.Prelude.{◌==◌, ◌||◌, nat_lt, nat_le, if◌then◌else◌}
use Rattle.std.specs.List.{list_all}

-- spaces, tabs and carriage returns
abbrev pub is_blank_byte : ℕ → Bool
is_blank_byte b = b == 32 || b == 9 || b == 13

-- A line of nothing else is blank, also an empty one.
abbrev pub is_blank : List ℕ → Bool
is_blank line = list_all is_blank_byte line

-- the most bytes of a line, its 0x0A not counted
abbrev pub most_bytes : ℕ
most_bytes = 1048576

-- the bytes of input at which it is too long
abbrev pub input_limit : ℕ
input_limit = 2 ^ 40

pub data Event : Type 0 where
  Line : List ℕ → Event
  TooLong : Event

-- What comes of a line: nothing where it is blank, however long it is.
abbrev pub events_of_line : List ℕ → List Event
events_of_line line =
    if is_blank line then []
    else if nat_lt most_bytes (length line) then TooLong ∷ []
    else Line line ∷ []

-- the bytes before the first 0x0A, and the pieces behind it, each up to the next 0x0A or the end
abbrev pub first_piece : List ℕ → List ℕ
first_piece [] = []
first_piece (b ∷ bytes) = if b == 10 then [] else b ∷ first_piece bytes

abbrev pub more_pieces : List ℕ → List (List ℕ)
more_pieces [] = []
more_pieces (b ∷ bytes) =
    if b == 10 then first_piece bytes ∷ more_pieces bytes else more_pieces bytes

abbrev pub pieces : List ℕ → List (List ℕ)
pieces bytes = first_piece bytes ∷ more_pieces bytes

-- what comes of each piece, one after another
abbrev pub events_of : List (List ℕ) → List Event
events_of [] = []
events_of (piece ∷ more) = events_of_line piece ++ events_of more

-- the lines of an input that ends
abbrev pub lines : List ℕ → List Event
lines input = events_of (pieces input)

-- all pieces but the last, which has no 0x0A
abbrev pub but_last : List (List ℕ) → List (List ℕ)
but_last [] = []
but_last (piece ∷ []) = []
but_last (piece ∷ next ∷ more) = piece ∷ but_last (next ∷ more)

-- the pieces that are lines: all where the bytes end, else those that have their 0x0A
abbrev pub ended_pieces : (goes_on : Bool) → List ℕ → List (List ℕ)
ended_pieces true bytes = but_last (pieces bytes)
ended_pieces false bytes = pieces bytes

-- The lines of any input. Where it doesn't end before the limit, they are those that end within
-- it, and the input is too long.
abbrev pub is_too_long : List ℕ → Bool
is_too_long input = nat_le input_limit (length input)

abbrev pub input_lines : List ℕ → List Event
input_lines input = events_of (ended_pieces (is_too_long input) (take input_limit input))
