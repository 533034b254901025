-- The pieces of a set and of a list, one behind another, are its text.
use Rattle.std.specs.Prelude.{◌≡◌, ℕ, List, ◌++◌, Bool, Option, false, option_map}
use Rattle.std.specs.List.{AllByRecursion}
use Rattle.record_set.specs.Sets.{key_of}
use Rattle.record_set.specs.declared.sets.RecordSet.{RecordSet}
use Rattle.reply_words.specs.Dump.{set_line}
use Rattle.reply_words.specs.Json.{line_of}
use Rattle.reply_words.specs.Lists.{list_reply}
use Rattle.reply_words.specs.Sets.{set_object}
use Rattle.list_writing.specs.Pieces.{list_front, list_rest, set_line_front, set_line_rest}
use Rattle.list_writing.specs.Pieces.{set_pieces, sets_pieces}
use Rattle.serde_json.specs.Written.{comma_if, compact_text}
use Rattle.set_octets.specs.Octets.{AreOfType}

-- What is written of a set is its object, with a comma in front where a set stands before. Its
-- values are of its type, as those of every set that has a spelling.
abbrev pub SetsAreWhole : Type 0
SetsAreWhole = (later : Bool) (zone : ℕ) (set : RecordSet) → AreOfType set.rtype set.body
    → set_pieces later zone set ≡ comma_if later ++ compact_text (set_object zone set)

-- What is written of a list is its line.
abbrev pub ListsAreWhole : Type 0
ListsAreWhole = (zone : ℕ) (sets : List RecordSet) (next : Option RecordSet)
    → AllByRecursion (λ set. AreOfType set.rtype set.body) sets
    → list_front (option_map key_of next) ++ (sets_pieces false zone sets ++ list_rest)
    ≡ line_of (list_reply zone sets next)

-- What is written of a set in a dump is its line.
abbrev pub SetLinesAreWhole : Type 0
SetLinesAreWhole = (zone : ℕ) (set : RecordSet) → AreOfType set.rtype set.body
    → set_line_front ++ (set_pieces false zone set ++ set_line_rest) ≡ set_line zone set
