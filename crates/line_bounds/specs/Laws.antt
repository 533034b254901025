-- What is known of the commands that lines are.
use Rattle.std.specs.Prelude.{◌≡◌, ℕ, ◌≤◌, ◌⊎◌, List, Some, Result, Ok}
use Rattle.batch_json.specs.Lines.{IsJson, line_of}
use Rattle.batch_json.specs.declared.asking.Line.{Line}
use Rattle.batch_json.specs.declared.asking.Line.TheVariants as line
use Rattle.command_bounds.specs.Laws.{HasShortLists}
use Rattle.batch_json.specs.CommandRecord.{Command}
use Rattle.command_bounds.specs.LawsOfConfigModel.{IsBounded}
use Rattle.ip_table.specs.Prefixes.{IsPrefix, Prefix}
use Rattle.line_faults.specs.declared.fault.LineFault.{LineFault}
use Rattle.line_faults.specs.declared.fault.LineReason.TheVariants.{NotJson}
use Rattle.line_faults.specs.declared.member.Member.TheVariants as m
use Rattle.line_reading.specs.Reading.{Gives, bad}
use Rattle.page_laws.specs.Laws.{IsAsked}
use Rattle.prefix_text.specs.Prefixes.{prefix_of_text}
use Rattle.rdata.specs.ValueOfText.{value_of_text}
use Rattle.rdata_layout.specs.Layout.{IsLayout}
use Rattle.rdata_layout.specs.declared.types.RType.{RType}
use Rattle.page_laws.specs.Paging.{Start}
use Rattle.serde_json.specs.Data.{Data}
use Rattle.zone_lines.specs.declared.lists.ListOfSets.{ListOfSets}

-- ---- parts of lines

-- The octets that a text gives as a value of a type are in the type's layout.
abbrev pub TextsAreValues : Type 0
TextsAreValues = (rtype : RType) (text octets : List ℕ) → value_of_text rtype text ≡ Ok octets
    → IsLayout rtype octets

-- The prefix that a text gives is one of an address, whose bits behind it are zeros.
abbrev pub TextsArePrefixes : Type 0
TextsArePrefixes = (text : List ℕ) (prefix : Prefix) → prefix_of_text text ≡ Some prefix
    → IsPrefix prefix.address prefix.length

-- ---- lines

-- The command that a JSON value gives is within its bounds, and its lists are short.
abbrev pub LinesAreBounded : Type 0
LinesAreBounded = (value : Data) (given : Command) → line_of value ≡ Ok (line.Control given)
    → IsBounded given × HasShortLists given

-- what `read_line` promises of octets that are a JSON value, and of others
abbrev pub ReadsJson : List ℕ → Result Line LineFault → Type 0
ReadsJson octets told = (value : Data) → IsJson octets value → Gives told (line_of value)

abbrev pub ReadsOthers : List ℕ → Result Line LineFault → Type 0
ReadsOthers octets told = ((value : Data) → IsJson octets value → ⊥)
    → Gives told (bad NotJson m.Line)

-- So is the command that was read of octets: what is told of them is what `read_line` promises.
abbrev pub ReadLinesAreBounded : Type 0
ReadLinesAreBounded = (octets : List ℕ) (told : Result Line LineFault) (given : Command)
    → ReadsJson octets told → ReadsOthers octets told
    → told ≡ Ok (line.Control given) → IsBounded given × HasShortLists given

-- where a list of sets starts
abbrev pub start_of : ListOfSets → Start
start_of list = record { name = list.name; rtype = list.rtype; ident = list.ident }

-- A list that was read of octets has a type where it has an identifier, and a name where it has a
-- type, and gives 1 to 300 sets.
abbrev pub ReadListsAreAsked : Type 0
ReadListsAreAsked = (octets : List ℕ) (told : Result Line LineFault) (list : ListOfSets)
    → ReadsJson octets told → ReadsOthers octets told
    → told ≡ Ok (line.List list)
    → IsAsked (start_of list) × (1 ≤ list.items) × (list.items ≤ 300)

-- A count that was read of octets, of turns or of pieces, is 1 to 1,000,000.
abbrev pub ReadCountsAreSome : Type 0
ReadCountsAreSome = (octets : List ℕ) (told : Result Line LineFault) (count : ℕ)
    → ReadsJson octets told → ReadsOthers octets told
    → (told ≡ Ok (line.Serve count)) ⊎ (told ≡ Ok (line.Compact count))
    → (1 ≤ count) × (count ≤ 1000000)
