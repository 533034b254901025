-- Readers that are built from readers. Each reads from the front, and answers the value and what
-- stands behind it, or the first fault: the number of octets that stand from its place on.
use Rattle.std.specs.Prelude.{ℕ, zero, suc, ◌+◌, ◌-◌, List, [], ◌∷◌, length, take, drop, Bool}
use Rattle.std.specs.Prelude.{true, false, not, ◌||◌, ◌==◌, nat_lt}
use Rattle.std.specs.Prelude.{Option, None, Some, Result, Ok, Err, if◌then◌else◌}
use Rattle.std.specs.List.{list_all}
use Rattle.octet_reading.specs.Reading.{◌>>=◌, octet_at, two_at, flag_at}

-- what reads a value from the front of octets
abbrev pub Reader : Type 0 → Type 0
Reader A = List ℕ → Result (A × List ℕ) ℕ

-- a reader, seen through a function
abbrev pub mapped : {A B : Type 0} → (A → B) → Reader A → Reader B
mapped view read octets = do
  x ← read octets
  Ok (view x.0, x.1)

-- one field behind another
abbrev pub in_turn : {A B : Type 0} → Reader A → Reader B → Reader (A × B)
in_turn first second octets = do
  x ← first octets
  y ← second x.1
  Ok ((x.0, y.0), y.1)

-- one field behind another that says how it is read
abbrev pub in_turn_by : {A B : Type 0} → Reader A → (A → Reader B) → Reader (A × B)
in_turn_by first second octets = do
  x ← first octets
  y ← second x.0 x.1
  Ok ((x.0, y.0), y.1)

-- so many of one field
abbrev pub so_many : {A : Type 0} → Reader A → ℕ → Reader (List A)
so_many read zero octets = Ok ([], octets)
so_many read (suc n) octets = do
  first ← read octets
  others ← so_many read n first.1
  Ok (first.0 ∷ others.0, others.1)

-- a list: how many there are, in two octets, and these
abbrev pub list_at : {A : Type 0} → Reader A → Reader (List A)
list_at read octets = do
  count ← two_at octets
  so_many read count.0 count.1

-- a flag and, where it is 1, a field
abbrev pub where_one : {A : Type 0} → Reader A → Bool → Reader (Option A)
where_one read false octets = Ok (None, octets)
where_one read true octets = do
  x ← read octets
  Ok (Some x.0, x.1)

abbrev pub optional_at : {A : Type 0} → Reader A → Reader (Option A)
optional_at read octets = do
  flag ← flag_at octets
  where_one read flag.0 flag.1

-- a field whose value is tested: it is outside the grammar from its first octet on where the test
-- fails
abbrev pub tested : {A : Type 0} → (A → Bool) → Reader A → Reader A
tested test read octets = do
  x ← read octets
  if test x.0 then Ok x else Err (length octets)

-- a field of at most so many octets: it is faulty from its first octet on where it has more
abbrev pub limited : {A : Type 0} → (most : ℕ) → Reader A → Reader A
limited most read octets = do
  x ← read octets
  if nat_lt most (length octets - length x.1) then Err (length octets) else Ok x

-- a number that stands for a value, and is the field: it is outside the grammar where it stands
-- for none
abbrev pub meant : {A : Type 0} → (octets : List ℕ) → Option A → Reader A
meant octets None rest = Err (length octets)
meant octets (Some x) rest = Ok (x, rest)

abbrev pub meaning : {A : Type 0} → (ℕ → Option A) → Reader ℕ → Reader A
meaning value read octets = do
  n ← read octets
  meant octets (value n.0) n.1

-- the one of these that has the number
abbrev pub numbered : {A : Type 0} → (A → ℕ) → List A → ℕ → Option A
numbered number [] n = None
numbered number (x ∷ xs) n = if number x == n then Some x else numbered number xs n

-- A kind of one octet, and the fields of that kind: the first line of the table with this number
-- says how they are read. A kind that isn't in the table is outside the grammar.
abbrev pub of_kind : {A : Type 0} → (octets : List ℕ) → List (ℕ × Reader A) → ℕ → Reader A
of_kind octets [] kind rest = Err (length octets)
of_kind octets (line ∷ lines) kind rest =
    if kind == line.0 then line.1 rest else of_kind octets lines kind rest

-- whether a table has a kind
abbrev pub has_kind : {A : Type 0} → List (ℕ × Reader A) → ℕ → Bool
has_kind [] kind = false
has_kind (line ∷ lines) kind = kind == line.0 || has_kind lines kind

abbrev pub kinds : {A : Type 0} → List (ℕ × Reader A) → Reader A
kinds lines octets = do
  kind ← octet_at octets
  of_kind octets lines kind.0 kind.1

-- A text of 1 to so many plain bytes, behind its length in one octet. It is one field with its
-- length: what can't go on to a text is faulty from its length on.
unfoldable pub text_at : (is_plain : ℕ → Bool) (most : ℕ) → Reader (List ℕ)
text_at is_plain most [] = Err 0
text_at is_plain most (n ∷ rest) =
    if nat_lt n 1 || nat_lt most n || not (list_all is_plain (take n rest))
    then Err (length rest + 1)
    else if nat_lt (length rest) n then Err 0
    else Ok (take n rest, drop n rest)

-- Nothing may stand behind what is read as a whole: the first octet there is faulty.
abbrev pub alone : {A : Type 0} → A × List ℕ → Result A ℕ
alone x = if length x.1 == 0 then Ok x.0 else Err (length x.1)

-- a fault by its place, counted from the front
abbrev pub by_place : {A : Type 0} → (total : ℕ) → Result A ℕ → Result A ℕ
by_place total (Ok x) = Ok x
by_place total (Err left) = Err (total - left)

-- What octets are as a whole; or the place of the first fault, which is their number where octets
-- are missing.
abbrev pub whole : {A : Type 0} → Reader A → List ℕ → Result A ℕ
whole read octets = by_place (length octets) (read octets >>= alone)
