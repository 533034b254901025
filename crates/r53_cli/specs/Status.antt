-- How the program ends by its status: its exit status, and its line on standard error.
use Rattle.std.specs.Prelude.{ℕ, ◌^◌, ◌<◌, List, [], ◌∷◌, ◌++◌, codes, ⊤}
use Rattle.std.specs.Fmt.{decimal}
use Rattle.zone_journal.specs.declared.answers.Side.{Side}
use Rattle.zone_journal.specs.declared.answers.Side.TheVariants as side
use Rattle.r53_cli.specs.declared.status.Status.{Status}
use Rattle.r53_cli.specs.declared.status.Status.TheVariants.{Done, Usage, NotAStore, AlreadyAStore, BadTables, ReadFault, WriteFault, DiskFault, LinkFault, OutOfMemory, InputTooLong}

abbrev pub number_of : Status → ℕ
number_of Done = 0
number_of Usage = 1
number_of (NotAStore disk place) = 2
number_of (AlreadyAStore disk) = 2
number_of (BadTables line) = 2
number_of ReadFault = 3
number_of WriteFault = 4
number_of DiskFault = 5
number_of LinkFault = 6
number_of OutOfMemory = 7
number_of InputTooLong = 8

abbrev pub letter_of : Side → List ℕ
letter_of side.A = codes "a"
letter_of side.B = codes "b"

-- with the line feed at its end; numbers in decimal digits without leading zeros
abbrev pub text_of : Status → List ℕ
text_of Done = []
text_of Usage = codes "r53: usage" ++ 0x0A ∷ []
text_of (NotAStore disk place) =
    codes "r53: not a store: disk " ++ (letter_of disk ++ (codes ", byte " ++ (decimal place ++ 0x0A ∷ [])))
text_of (AlreadyAStore disk) = codes "r53: already a store: disk " ++ (letter_of disk ++ 0x0A ∷ [])
text_of (BadTables line) = codes "r53: bad tables: line " ++ (decimal line ++ 0x0A ∷ [])
text_of ReadFault = codes "r53: read fault" ++ 0x0A ∷ []
text_of WriteFault = codes "r53: write fault" ++ 0x0A ∷ []
text_of DiskFault = codes "r53: disk fault" ++ 0x0A ∷ []
text_of LinkFault = codes "r53: link fault" ++ 0x0A ∷ []
text_of OutOfMemory = codes "r53: out of memory" ++ 0x0A ∷ []
text_of InputTooLong = codes "r53: input too long" ++ 0x0A ∷ []

-- the place, or the line, is a number of 64 bits
abbrev pub IsNumbered : Status → Type 0
IsNumbered Done = ⊤
IsNumbered Usage = ⊤
IsNumbered (NotAStore disk place) = place < 2 ^ 64
IsNumbered (AlreadyAStore disk) = ⊤
IsNumbered (BadTables line) = line < 2 ^ 64
IsNumbered ReadFault = ⊤
IsNumbered WriteFault = ⊤
IsNumbered DiskFault = ⊤
IsNumbered LinkFault = ⊤
IsNumbered OutOfMemory = ⊤
IsNumbered InputTooLong = ⊤
