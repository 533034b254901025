-- The fields of a command, in their order (FORMATS, Octets of commands).
use Rattle.std.specs.Prelude.{◌≡◌, ℕ, ◌<◌, ◌^◌, List, [], ◌∷◌, ◌++◌, length, Bool, true, false, Option, None, Some, ⊤}
use Rattle.std.specs.List.{flat_map, AllByRecursion}
use Rattle.octets.specs.Numbers.{two_octets, four_octets}
use Rattle.set_reading.specs.Labels.{wire}
use Rattle.set_reading.specs.Octets.{set_octets, most_octets}
use Rattle.set_reading.specs.RecordSetRecord.{RecordSet}
use Rattle.check_octets.specs.Rules.{flag_octet, text_octets}
use Rattle.check_octets.specs.Octets.{spells_disabled}
use Rattle.check_octets.specs.Octets as checks
use Rattle.check_model.specs.declared.checks.Check.{Check}
use Rattle.check_model.specs.declared.checks.Check.TheVariants as check
use Rattle.check_model.specs.declared.checks.CheckCommand.{CheckCommand}
use Rattle.check_model.specs.declared.checks.CheckCommand.TheVariants as check_command
use Rattle.block_octets.specs.Prefixes.{Prefix}
use Rattle.block_octets.specs.Places.{octets_of}
use Rattle.block_octets.specs.CidrChangeRecord.{CidrChange}
use Rattle.block_octets.specs.CidrCommandRecord.{CidrCommand}
use Rattle.block_octets.specs.CidrCommandRecord.TheVariants as cidr_command
use Rattle.block_octets.specs.Octets.{family_of, put_number}
use Rattle.block_octets.specs.Octets as collections
use Rattle.command_octets.specs.ActionRecord.{Action}
use Rattle.command_octets.specs.ChangeRecord.{Change}
use Rattle.command_octets.specs.declared.commands.Command.{Command}
use Rattle.command_octets.specs.declared.commands.Command.TheVariants as command
use Rattle.command_octets.specs.Octets.{IsVersion, HasSpelledSet, action_number, change_octets, kind_of, spelling}
use Rattle.command_codec.specs.Commands.{HasSet, IsCommand, Spells}
use Rattle.fault_places.specs.Fields.{Field}
use Rattle.fault_places.specs.Sets.{sized, open_ended, fields_of_set, IsInGrammar}

abbrev pub flag_fields : Bool → List Field
flag_fields flag = sized (flag_octet flag ∷ []) ∷ []

abbrev pub two_fields : ℕ → List Field
two_fields n = sized (two_octets n) ∷ []

abbrev pub four_fields : ℕ → List Field
four_fields n = sized (four_octets n) ∷ []

-- a list: how many there are, and the fields of these
abbrev pub list_fields : {A : Type 0} → (A → List Field) → List A → List Field
list_fields fields xs = sized (two_octets (length xs)) ∷ flat_map fields xs

-- a flag, and fields where it is 1
abbrev pub optional_fields : {A : Type 0} → (A → List Field) → Option A → List Field
optional_fields fields None = sized (0 ∷ []) ∷ []
optional_fields fields (Some x) = sized (1 ∷ []) ∷ fields x

-- fields that stand there where they are told
abbrev pub where_spelled : (told : Bool) → List Field → List Field
where_spelled true fields = fields
where_spelled false fields = []

-- a check: its kind, its threshold, and flags; for a calculated one its children
abbrev pub check_fields : (version : ℕ) → Check → List Field
check_fields version (check.Endpoint threshold inverted disabled) =
    sized (1 ∷ []) ∷ sized (threshold ∷ []) ∷ sized (flag_octet inverted ∷ [])
    ∷ where_spelled (spells_disabled version) (flag_fields disabled)
check_fields version (check.Calculated threshold inverted disabled children) =
    sized (2 ∷ []) ∷ sized (two_octets threshold) ∷ sized (flag_octet inverted ∷ [])
    ∷ (where_spelled (spells_disabled version) (flag_fields disabled)
    ++ list_fields four_fields children)

-- a command on checks: a check; a number, and what is given; or a number
abbrev pub health_fields : (version : ℕ) → CheckCommand → List Field
health_fields version (check_command.Create check) = check_fields version check
health_fields version (check_command.Update id inverted disabled threshold children) =
    sized (four_octets id) ∷ (((optional_fields flag_fields inverted
    ++ where_spelled (spells_disabled version) (optional_fields flag_fields disabled))
    ++ optional_fields two_fields threshold)
    ++ optional_fields (list_fields four_fields) children)
health_fields version (check_command.Delete id) = four_fields id

-- a block: the version of its address, the address, and its length
abbrev pub block_fields : Prefix → List Field
block_fields block =
    sized (family_of block.address ∷ []) ∷ sized (octets_of block.address)
    ∷ sized (block.length ∷ []) ∷ []

-- a change of a collection: what it does, a location, and blocks
abbrev pub cidr_change_fields : CidrChange → List Field
cidr_change_fields change =
    sized (put_number change.put ∷ []) ∷ open_ended (text_octets change.location)
    ∷ list_fields block_fields change.blocks

-- a command on collections: a name; a number and changes; or a number
abbrev pub cidr_fields : CidrCommand → List Field
cidr_fields (cidr_command.Create name) = open_ended (text_octets name) ∷ []
cidr_fields (cidr_command.Change id changes) =
    sized (four_octets id) ∷ list_fields cidr_change_fields changes
cidr_fields (cidr_command.Delete id) = four_fields id

-- a change of a batch: its action, how many characters its values have, and the fields of its set
abbrev pub change_fields : Change → List Field
change_fields change =
    sized (action_number change.action ∷ []) ∷ sized (four_octets change.characters)
    ∷ fields_of_set change.set

abbrev pub name_fields : List (List ℕ) → List Field
name_fields name = open_ended (wire name) ∷ []

-- what stands behind the kind of a command
abbrev pub later_fields : (version : ℕ) → Command → List Field
later_fields version (command.CreateZone name servers) =
    open_ended (wire name) ∷ flat_map name_fields servers
later_fields version (command.DeleteZone zone) = four_fields zone
later_fields version (command.Change batch) =
    sized (four_octets batch.zone) ∷ list_fields change_fields batch.changes
later_fields version (command.Health command) = health_fields version command
later_fields version (command.Cidr command) = cidr_fields command

-- a version, a kind, and the fields of that kind
abbrev pub fields_of : ℕ × Command → List Field
fields_of versioned =
    sized (versioned.0 ∷ []) ∷ sized (kind_of versioned.1 ∷ [])
    ∷ later_fields versioned.0 versioned.1

-- the octets of a command in a version
abbrev pub octets_of_command : ℕ × Command → List ℕ
octets_of_command versioned = spelling versioned.0 versioned.1

-- a change whose set's fields are in the grammar
abbrev pub IsChangeInGrammar : Change → Type 0
IsChangeInGrammar change = IsInGrammar change.set

-- no more changes than can be counted; their sets have as many octets as you like
abbrev pub AreInGrammar : List Change → Type 0
AreInGrammar changes = (length changes < 2 ^ 16) × AllByRecursion IsChangeInGrammar changes

abbrev pub HasGrammar : (version : ℕ) → Command → Type 0
HasGrammar version (command.CreateZone name servers) =
    IsCommand (command.CreateZone name servers)
HasGrammar version (command.DeleteZone zone) = ⊤
HasGrammar version (command.Change batch) = AreInGrammar batch.changes
HasGrammar version (command.Health command) = checks.HasSpelling version command
HasGrammar version (command.Cidr command) = (version ≡ 2) × collections.HasSpelling command

-- A version, and a command whose fields are in that version's grammar, however many octets its sets
-- have.
abbrev pub IsCommandInGrammar : ℕ × Command → Type 0
IsCommandInGrammar versioned =
    IsVersion versioned.0 × HasGrammar versioned.0 versioned.1

-- a change as it stands in a command
abbrev pub IsWholeChange : Change → Type 0
IsWholeChange change = HasSet change × HasSpelledSet change

-- Octets of a batch go on to a set at this place that is longer than sets may be and has its fields
-- in the grammar: whole changes stand before it, fewer than the batch has.
pub record HasLongSetAt (octets : List ℕ) (place : ℕ) : Type 0 where
  pub version : ℕ
  pub zone : ℕ
  pub count : ℕ
  pub changes : List Change
  pub action : Action
  pub characters : ℕ
  pub set : RecordSet
  pub rest : List ℕ
  pub is_version : IsVersion version
  pub few : count < 2 ^ 16
  pub fewer : length changes < count
  pub each : AllByRecursion IsWholeChange changes
  pub is : IsInGrammar set
  pub long : most_octets < length (set_octets set)
  pub parts : octets ≡ (version ∷ 3 ∷ (four_octets zone ++ two_octets count
      ++ flat_map change_octets changes ++ (action_number action ∷ four_octets characters)))
      ++ (set_octets set ++ rest)
  pub behind : place ≡ length (version ∷ 3 ∷ (four_octets zone ++ two_octets count
      ++ flat_map change_octets changes ++ (action_number action ∷ four_octets characters)))

-- More octets stand behind a whole command, which ends at this place.
pub record HasSurplusAt (octets : List ℕ) (place : ℕ) : Type 0 where
  pub front : List ℕ
  pub surplus : List ℕ
  pub command : Command
  pub spells : Spells front command
  pub some : 0 < length surplus
  pub parts : octets ≡ front ++ surplus
  pub behind : place ≡ length front
