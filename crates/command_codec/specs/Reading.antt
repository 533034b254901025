-- Reading the octets of a command from left to right, with the first fault that is met (FORMATS, Octets of commands).
use Rattle.std.specs.Prelude.{ℕ, ◌-◌, List, [], ◌∷◌, length, drop, Bool, ◌==◌, ◌||◌, Option, Result, Ok, Err, if◌then◌else◌}
use Rattle.set_reading.specs.ReadingOfOctetReading.{octet_at, four_at}
use Rattle.set_reading.specs.NamesOfOctetReading.{name_at}
use Rattle.set_reading.specs.Readers.{mapped, in_turn, in_turn_by, so_many, list_at, tested, meaning, numbered, kinds, whole}
use Rattle.command_octets.specs.ActionRecord.{Action}
use Rattle.command_octets.specs.ActionRecord.TheVariants as action
use Rattle.command_octets.specs.ChangeRecord.{Change}
use Rattle.set_reading.specs.RecordSetRecord.{RecordSet}
use Rattle.set_reading.specs.Reading as sets
use Rattle.check_reading.specs.Reading as checks
use Rattle.block_reading.specs.Reading as collections
use Rattle.command_octets.specs.declared.commands.Command.{Command}
use Rattle.command_octets.specs.declared.commands.Command.TheVariants as command
use Rattle.command_octets.specs.Octets.{action_number}

-- the versions 1 and 2
abbrev pub is_version : ℕ → Bool
is_version version = version == 1 || version == 2

unfoldable pub version_at : List ℕ → Result (ℕ × List ℕ) ℕ
version_at octets = tested is_version octet_at octets

-- four names
unfoldable pub servers_at : List ℕ → Result (List (List (List ℕ)) × List ℕ) ℕ
servers_at octets = so_many name_at 4 octets

-- a zone's name, and its servers
abbrev pub created : List (List ℕ) × List (List (List ℕ)) → Command
created fields = command.CreateZone fields.0 fields.1

unfoldable pub create_at : List ℕ → Result (Command × List ℕ) ℕ
create_at octets = mapped created (in_turn name_at servers_at) octets

-- a zone's number
unfoldable pub delete_at : List ℕ → Result (Command × List ℕ) ℕ
delete_at octets = mapped command.DeleteZone four_at octets

-- an action by its number
abbrev pub actions : List Action
actions = action.Create ∷ action.Delete ∷ action.Upsert ∷ []

abbrev pub action_of : ℕ → Option Action
action_of n = numbered action_number actions n

unfoldable pub action_at : List ℕ → Result (Action × List ℕ) ℕ
action_at octets = meaning action_of octet_at octets

-- A set as it is read at the front of octets, and those behind it. Where it is longer than sets may be, its first octet is
-- the place of the fault.
abbrev pub behind_set : List ℕ → Result (RecordSet × ℕ) ℕ → Result (RecordSet × List ℕ) ℕ
behind_set octets (Ok x) = Ok (x.0, drop x.1 octets)
behind_set octets (Err place) = Err (length octets - place)

unfoldable pub set_at : List ℕ → Result (RecordSet × List ℕ) ℕ
set_at octets = behind_set octets (sets.read octets)

-- an action, how many characters the values have, and a set
abbrev pub changed : (Action × ℕ) × RecordSet → Change
changed fields = record { action = fields.0.0; characters = fields.0.1; set = fields.1 }

unfoldable pub change_at : List ℕ → Result (Change × List ℕ) ℕ
change_at octets = mapped changed (in_turn (in_turn action_at four_at) set_at) octets

-- a zone's number, and the list of changes
abbrev pub batched : ℕ × List Change → Command
batched fields = command.Change (record { zone = fields.0; changes = fields.1 })

unfoldable pub batch_at : List ℕ → Result (Command × List ℕ) ℕ
batch_at octets = mapped batched (in_turn four_at (list_at change_at)) octets

-- commands on health checks, of which the first version says less
unfoldable pub check_made_at : (version : ℕ) → List ℕ → Result (Command × List ℕ) ℕ
check_made_at version octets = mapped command.Health (checks.create_at version) octets

unfoldable pub check_changed_at : (version : ℕ) → List ℕ → Result (Command × List ℕ) ℕ
check_changed_at version octets = mapped command.Health (checks.update_at version) octets

unfoldable pub check_deleted_at : List ℕ → Result (Command × List ℕ) ℕ
check_deleted_at octets = mapped command.Health checks.delete_at octets

-- commands on collections
unfoldable pub collection_made_at : List ℕ → Result (Command × List ℕ) ℕ
collection_made_at octets = mapped command.Cidr collections.create_at octets

unfoldable pub collection_changed_at : List ℕ → Result (Command × List ℕ) ℕ
collection_changed_at octets = mapped command.Cidr collections.change_collection_at octets

unfoldable pub collection_deleted_at : List ℕ → Result (Command × List ℕ) ℕ
collection_deleted_at octets = mapped command.Cidr collections.delete_at octets

-- the kinds, a line each: its number, and how its fields are read; those of collections stand in
-- the second version alone
abbrev pub collection_lines : (version : ℕ) → List (ℕ × (List ℕ → Result (Command × List ℕ) ℕ))
collection_lines version =
    if version == 2
    then (7, collection_made_at) ∷ (8, collection_changed_at) ∷ (9, collection_deleted_at) ∷ []
    else []

abbrev pub kind_table : (version : ℕ) → List (ℕ × (List ℕ → Result (Command × List ℕ) ℕ))
kind_table version =
    (1, create_at) ∷ (2, delete_at) ∷ (3, batch_at) ∷ (4, check_made_at version)
    ∷ (5, check_changed_at version) ∷ (6, check_deleted_at) ∷ collection_lines version

unfoldable pub command_at : (version : ℕ) → List ℕ → Result (Command × List ℕ) ℕ
command_at version octets = kinds (kind_table version) octets

-- the version and a command behind it
unfoldable pub versioned_at : List ℕ → Result ((ℕ × Command) × List ℕ) ℕ
versioned_at octets = in_turn_by version_at command_at octets

-- the command, whatever its version
abbrev pub unversioned : Result (ℕ × Command) ℕ → Result Command ℕ
unversioned (Ok x) = Ok x.1
unversioned (Err place) = Err place

-- The command that octets are, in either version, with nothing behind it; or the place of the first fault.
unfoldable pub read : List ℕ → Result Command ℕ
read octets = unversioned (whole versioned_at octets)
