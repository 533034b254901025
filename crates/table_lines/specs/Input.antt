-- The tables that an input says, line by line (FORMATS, Tables of places and latencies).
use Rattle.std.specs.Prelude.{◌≡◌, ℕ, ◌+◌, Bool, true, false, List, [], ◌∷◌, length, take, drop, nat_lt}
use Rattle.std.specs.Prelude.{if◌then◌else◌, Option, Some, Result, Ok, Err, ⊤}
use Rattle.geo_latency.specs.Tables.{outcome}
use Rattle.geo_latency.specs.declared.tables.Tables.{Tables}
use Rattle.geo_latency.specs.declared.tables.TableLine.{TableLine}
use Rattle.geo_latency.specs.declared.tables.TableLine.TheVariants as answer
use Rattle.line_splitting.specs.Lines.{first_piece, more_pieces, input_limit, is_too_long}
use Rattle.table_lines.specs.declared.reading.TablesFault.{TablesFault}
use Rattle.table_lines.specs.declared.reading.TablesFault.TheVariants as fault

-- tables without rows
abbrev pub no_rows : Tables
no_rows = record { places = []; latencies = [] }

-- the most octets of a line, its 0x0A not counted
abbrev pub most_octets : ℕ
most_octets = 4096

abbrev pub is_bad : TableLine → Bool
is_bad answer.Added = false
is_bad answer.Skipped = false
is_bad answer.Bad = true
is_bad answer.OutOfMemory = false

-- What comes of the last piece, which has this number, behind lines that gave these tables. It is a
-- line where the input ends. Where the input goes on it has no end yet, and is bad where it is too
-- long already.
abbrev pub last_piece : (goes_on : Bool) → Tables → (number : ℕ) → (piece : List ℕ)
    → Result Tables TablesFault
last_piece false tables number line =
    if is_bad (outcome tables line).0 then Err (fault.Bad number)
    else Ok (outcome tables line).1
last_piece true tables number piece =
    if nat_lt most_octets (length piece) then Err (fault.Bad number) else Err fault.TooLong

-- What comes of pieces of which the first has this number: all but the last are lines, and each is
-- answered by the rows of the lines before it.
abbrev pub pieces_from : (goes_on : Bool) → Tables → (number : ℕ) → (piece : List ℕ)
    → (more : List (List ℕ)) → Result Tables TablesFault
pieces_from goes_on tables number piece [] = last_piece goes_on tables number piece
pieces_from goes_on tables number line (next ∷ more) =
    if is_bad (outcome tables line).0 then Err (fault.Bad number)
    else pieces_from goes_on (outcome tables line).1 (number + 1) next more

-- the same of octets, cut at each 0x0A
abbrev pub octets_from : (goes_on : Bool) → Tables → (number : ℕ) → List ℕ
    → Result Tables TablesFault
octets_from goes_on tables number octets =
    pieces_from goes_on tables number (first_piece octets) (more_pieces octets)

-- The tables that an input says, or the number of its first bad line, from 1. Behind a last 0x0A
-- there is an empty piece, which is skipped as an empty line is. Of an input that doesn't end before
-- the limit, the lines are those that end within it.
abbrev pub tables_of : (input : List ℕ) → Result Tables TablesFault
tables_of input = octets_from (is_too_long input) no_rows 1 (take input_limit input)

-- An answer, by what the source had left and has left after it. A bad line is told by the octets as
-- far as its end, or as far as it is too long; how many were read is free. A read may fail, and
-- memory may be wanting, at any octet.
abbrev pub Gives : (input : List ℕ) → (after : Option (List ℕ)) → Result Tables TablesFault → Type 0
Gives input after (Ok tables) = (tables_of input ≡ Ok tables) × (after ≡ Some [])
Gives input after (Err (fault.Bad number)) = tables_of input ≡ Err (fault.Bad number)
Gives input after (Err fault.TooLong) =
    (tables_of input ≡ Err fault.TooLong) × (after ≡ Some (drop input_limit input))
Gives input after (Err fault.ReadFault) = ⊤
Gives input after (Err fault.OutOfMemory) = ⊤
