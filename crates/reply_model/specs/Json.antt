-- JSON as replies have it: objects whose members stand in byte order of their names, on one line.
use Rattle.std.specs.Prelude.{ℕ, List, [], ◌∷◌, ◌++◌, codes, decimal}
use Rattle.serde_json.specs.Data.{Data, Items, Members, item, no_items, no_members}
use Rattle.serde_json.specs.Data.{number, object, put, array, string, unsigned}
use Rattle.serde_json.specs.Written.{compact_text}
use Rattle.dns_name.specs.Written as names
use Rattle.line_faults.specs.Texts.{text_of}
use Rattle.line_faults.specs.declared.member.Member.{Member}
use Rattle.config_model.specs.Types as types
use Rattle.config_model.specs.RTypeRecord.{RType}

-- a member of an object: its name, and its value
abbrev pub NamedValue : Type 0
NamedValue = List ℕ × Data

-- the members in byte order of their names, in whichever order they are given
abbrev pub ordered : List NamedValue → Members
ordered [] = no_members
ordered (field ∷ fields) = put field.0 field.1 (ordered fields)

abbrev pub object_of : List NamedValue → Data
object_of fields = object (ordered fields)

abbrev pub items_of : List Data → Items
items_of [] = no_items
items_of (d ∷ ds) = item d (items_of ds)

abbrev pub list_of : List Data → Data
list_of ds = array (items_of ds)

abbrev pub count : ℕ → Data
count n = number (unsigned n)

-- the members of control lines have their names in replies too
abbrev pub field : Member → Data → NamedValue
field m d = (text_of m, d)

abbrev pub name_text : (name : List (List ℕ)) → Data
name_text name = string (names.text_of name)

abbrev pub type_text : RType → Data
type_text rtype = string (types.text_of rtype)

-- ---- ids (own): a letter and a number

abbrev pub zone_text : ℕ → Data
zone_text id = string (0x5A ∷ decimal id)

abbrev pub check_text : ℕ → Data
check_text id = string (0x68 ∷ decimal id)

abbrev pub collection_text : ℕ → Data
collection_text id = string (0x63 ∷ decimal id)

-- ---- a line

-- compact JSON, and a line feed
unfoldable pub line_of : Data → List ℕ
line_of d = compact_text d ++ 0x0A ∷ []

-- a line that was done, with what else is told
abbrev pub done : Member → List NamedValue → Data
done line fields = object_of ((codes "Ok", string (text_of line)) ∷ fields)
