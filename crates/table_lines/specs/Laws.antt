-- Laws over the tables that an input says.
use Rattle.std.specs.Prelude.{◌≡◌, ◌≢◌, ℕ, ◌<◌, ◌≤◌, ◌+◌, List, [], ◌∷◌, length, Option, Result, Ok, Err}
use Rattle.std.specs.Prelude.{if◌then◌else◌}
use Rattle.geo_latency.specs.Tables.{outcome}
use Rattle.geo_latency.specs.declared.tables.Tables.{Tables}
use Rattle.line_splitting.specs.Lines.{pieces, input_limit}
use Rattle.table_lines.specs.Input.{Gives, is_bad, no_rows, tables_of}
use Rattle.table_lines.specs.declared.reading.TablesFault.{TablesFault}
use Rattle.table_lines.specs.declared.reading.TablesFault.TheVariants as fault

-- Neither the source nor the memory is what ended the reading.
abbrev pub IsTold : Result Tables TablesFault → Type 0
IsTold answer = (answer ≢ Err fault.ReadFault) × (answer ≢ Err fault.OutOfMemory)

-- One input has one outcome.
abbrev pub OneOutcome : Type 0
OneOutcome = (input : List ℕ) (after other_after : Option (List ℕ)) (answer other : Result Tables TablesFault)
    → Gives input after answer → Gives input other_after other → IsTold answer → IsTold other
    → answer ≡ other

-- The tables after these lines, of which the first has this number, or the number of the first that
-- is bad.
abbrev pub lines_from : Tables → (number : ℕ) → List (List ℕ) → Result Tables TablesFault
lines_from tables number [] = Ok tables
lines_from tables number (line ∷ more) =
    if is_bad (outcome tables line).0 then Err (fault.Bad number)
    else lines_from (outcome tables line).1 (number + 1) more

-- The lines of an input that ends within the limit are its pieces.
abbrev pub WholeInput : Type 0
WholeInput = (input : List ℕ) → length input < input_limit
    → tables_of input ≡ lines_from no_rows 1 (pieces input)

-- Only an input that doesn't end within the limit is too long.
abbrev pub TooLongInput : Type 0
TooLongInput = (input : List ℕ) → tables_of input ≡ Err fault.TooLong → input_limit ≤ length input
