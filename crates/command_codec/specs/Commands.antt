-- What the parts of a command are.
use Rattle.std.specs.Prelude.{◌≡◌, ℕ, List, length, ⊤}
use Rattle.std.specs.List.{AllByRecursion}
use Rattle.set_reading.specs.Names.{IsName}
use Rattle.command_octets.specs.ChangeRecord.{Change}
use Rattle.set_reading.specs.Sets.{IsSet}
use Rattle.command_octets.specs.declared.commands.Command.{Command}
use Rattle.command_octets.specs.declared.commands.Command.TheVariants as command
use Rattle.command_octets.specs.Octets.{IsVersion, spelling, HasSpelling}

abbrev pub HasSet : Change → Type 0
HasSet change = IsSet change.set

-- four names
pub record AreServers (servers : List (List (List ℕ))) : Type 0 where
  pub four : length servers ≡ 4
  pub names : AllByRecursion IsName servers

-- What every command is.
abbrev pub IsCommand : Command → Type 0
IsCommand (command.CreateZone name servers) = IsName name × AreServers servers
IsCommand (command.DeleteZone zone) = ⊤
IsCommand (command.Change batch) = AllByRecursion HasSet batch.changes
IsCommand (command.Health command) = ⊤
IsCommand (command.Cidr command) = ⊤

-- These octets are the command's, in one of the versions.
pub record Spells (octets : List ℕ) (command : Command) : Type 0 where
  pub version : ℕ
  pub is_version : IsVersion version
  pub is : IsCommand command
  pub has_spelling : HasSpelling version command
  pub spelled : octets ≡ spelling version command
