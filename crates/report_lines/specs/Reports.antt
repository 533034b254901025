-- Report datagrams (FORMATS, Report datagrams): `OBS`, the id of a check, a checker, and 1 for a pass
-- or 0, with one space between, and at most one line feed at the end (own).
use Rattle.std.specs.Prelude.{ℕ, ◌+◌, ◌==◌, Bool, true, false, List, [], ◌∷◌, take, drop}
use Rattle.std.specs.Prelude.{codes, Option, None, Some, if◌then◌else◌}
use Rattle.std.specs.Str.{bytes_eq}
use Rattle.check_lines.specs.declared.observing.Observation.{Observation}
use Rattle.prefix_text.specs.Marks.{place_of}
use Rattle.prefix_text.specs.Prefixes.{plain_number}

-- without one line feed at the end, where there is one
abbrev pub without_feed : List ℕ → List ℕ
without_feed [] = []
without_feed (b ∷ []) = if b == 0x0A then [] else b ∷ []
without_feed (b ∷ c ∷ rest) = b ∷ without_feed (c ∷ rest)

-- what stands in front of the first space, and what stands behind it
abbrev pub split_at : (text : List ℕ) → (place : Option ℕ) → Option (List ℕ × List ℕ)
split_at text None = None
split_at text (Some at) = Some (take at text, drop (at + 1) text)

abbrev pub split : List ℕ → Option (List ℕ × List ℕ)
split text = split_at text (place_of 0x20 text)

-- a number that a check may have
abbrev pub if_some : Option ℕ → Option ℕ
if_some None = None
if_some (Some n) = if n == 0 then None else Some n

-- the number in an id: `h`, and 1 to 4294967294 in decimal digits without leading zeros
abbrev pub id_of_text : List ℕ → Option ℕ
id_of_text [] = None
id_of_text (first ∷ digits) =
    if first == 0x68 then if_some (plain_number 4294967294 digits) else None

-- one of fifty checkers, without leading zeros
abbrev pub checker_of_text : List ℕ → Option ℕ
checker_of_text digits = plain_number 49 digits

-- `1` or `0`
abbrev pub pass_of_text : List ℕ → Option Bool
pass_of_text [] = None
pass_of_text (digit ∷ []) =
    if digit == 0x31 then Some true else if digit == 0x30 then Some false else None
pass_of_text (digit ∷ other ∷ more) = None

-- what is told, where each part of it is
abbrev pub all_there : (id checker : Option ℕ) → Option Bool → Option Observation
all_there None checker pass = None
all_there (Some id) None pass = None
all_there (Some id) (Some checker) None = None
all_there (Some id) (Some checker) (Some pass) =
    Some (record { id = id; checker = checker; pass = pass })

-- ---- the fields, one behind another

abbrev pub with_checker : (id : List ℕ) → Option (List ℕ × List ℕ) → Option Observation
with_checker id None = None
with_checker id (Some (checker, pass)) = all_there (id_of_text id) (checker_of_text checker) (pass_of_text pass)

abbrev pub with_id : Option (List ℕ × List ℕ) → Option Observation
with_id None = None
with_id (Some (id, rest)) = with_checker id (split rest)

abbrev pub with_word : Option (List ℕ × List ℕ) → Option Observation
with_word None = None
with_word (Some (word, rest)) =
    if bytes_eq word (codes "OBS") then with_id (split rest) else None

-- the report that a datagram is
unfoldable pub report_of : List ℕ → Option Observation
report_of octets = with_word (split (without_feed octets))
