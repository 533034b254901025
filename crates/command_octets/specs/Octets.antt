-- The octets of commands: one spelling each in a version (FORMATS, Octets of commands).
use Rattle.std.specs.Prelude.{ℕ, ◌≡◌, ◌^◌, ◌<◌, ◌⊎◌, List, ◌∷◌, ◌++◌, length, ⊤}
use Rattle.std.specs.List.{flat_map, AllByRecursion}
use Rattle.octets.specs.Numbers.{two_octets, four_octets}
use Rattle.check_octets.specs.Labels.{wire}
use Rattle.batch_model.specs.declared.batches.Action.{Action}
use Rattle.batch_model.specs.declared.batches.Action.TheVariants as action
use Rattle.batch_model.specs.declared.batches.Batch.{Batch}
use Rattle.batch_model.specs.declared.batches.Change.{Change}
use Rattle.batch_model.specs.Octets.{set_octets}
use Rattle.batch_model.specs.Octets as sets
use Rattle.check_octets.specs.Octets as checks
use Rattle.block_octets.specs.Octets as collections
use Rattle.command_octets.specs.declared.commands.Command.{Command}
use Rattle.command_octets.specs.declared.commands.Command.TheVariants as command

abbrev pub action_number : Action → ℕ
action_number action.Create = 1
action_number action.Delete = 2
action_number action.Upsert = 3

-- a change: its action, how many characters its values have, and its set
abbrev pub change_octets : Change → List ℕ
change_octets change = action_number change.action ∷ (four_octets change.characters ++ set_octets change.set)

-- a batch: the zone's number, how many changes there are, and these
abbrev pub batch_octets : Batch → List ℕ
batch_octets batch = four_octets batch.zone ++ two_octets (length batch.changes) ++ flat_map change_octets batch.changes

-- The versions: journals may hold both, and commands are written in the second.
abbrev pub IsVersion : ℕ → Type 0
IsVersion version = (version ≡ 1) ⊎ (version ≡ 2)

-- the kinds of commands
abbrev pub kind_of : Command → ℕ
kind_of (command.CreateZone name servers) = 1
kind_of (command.DeleteZone zone) = 2
kind_of (command.Change batch) = 3
kind_of (command.Health command) = checks.kind_of command
kind_of (command.Cidr command) = collections.kind_of command

-- the fields of a command in a version; those of checks alone differ
abbrev pub field_octets : (version : ℕ) → Command → List ℕ
field_octets version (command.CreateZone name servers) = wire name ++ flat_map wire servers
field_octets version (command.DeleteZone zone) = four_octets zone
field_octets version (command.Change batch) = batch_octets batch
field_octets version (command.Health command) = checks.field_octets version command
field_octets version (command.Cidr command) = collections.field_octets command

-- the octets of a command in a version: the version, the kind, and the fields of that kind
abbrev pub spelling : (version : ℕ) → Command → List ℕ
spelling version command = version ∷ kind_of command ∷ field_octets version command

-- a command as it is written
abbrev pub command_octets : Command → List ℕ
command_octets command = spelling 2 command

-- a change whose set has a spelling
abbrev pub HasSpelledSet : Change → Type 0
HasSpelledSet change = sets.HasSpelling change.set

-- no more changes than can be counted, and each set has a spelling
pub record IsSpelledBatch (batch : Batch) : Type 0 where
  pub count : length batch.changes < 2 ^ 16
  pub each : AllByRecursion HasSpelledSet batch.changes

-- What has a spelling in a version. Commands on collections have one in the second alone.
abbrev pub HasSpelling : (version : ℕ) → Command → Type 0
HasSpelling version (command.CreateZone name servers) = ⊤
HasSpelling version (command.DeleteZone zone) = ⊤
HasSpelling version (command.Change batch) = IsSpelledBatch batch
HasSpelling version (command.Health command) = checks.HasSpelling version command
HasSpelling version (command.Cidr command) = (version ≡ 2) × collections.HasSpelling command
