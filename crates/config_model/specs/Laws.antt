-- What commands on configurations come to.
use Rattle.std.specs.Prelude.{◌≡◌, ◌≢◌, length, Ok, Err, ⊤}
use Rattle.std.specs.List.{AllByRecursion}
use Rattle.command_octets.specs.ChangeRecord.{Change}
use Rattle.check_model.specs.Commands.{IsBoundedCommand}
use Rattle.command_octets.specs.CommandsOfCidrCommands.{HasNames}
use Rattle.command_octets.specs.declared.commands.Command.{Command}
use Rattle.command_octets.specs.declared.commands.Command.TheVariants as command
use Rattle.set_reading.specs.Names.{IsName}
use Rattle.set_reading.specs.RecordSetRecord.{RecordSet}
use Rattle.set_reading.specs.Octets.{AreOfType, IsSpelledBody, IsSpelledRouting}
use Rattle.set_reading.specs.Sets.{IsSet}
use Rattle.config_model.specs.Applying.{Applies, Decides, Outcome}
use Rattle.config_model.specs.Configs.{Config, empty}
use Rattle.config_model.specs.Sound.{Sound}
use Rattle.config_model.specs.declared.refusals.Made.{Made}
use Rattle.config_model.specs.declared.refusals.Refusal.TheVariants as refusal

-- A command has one outcome, but for want of memory.
abbrev pub OneOutcome : Type 0
OneOutcome = (config : Config) (command : Command) (outcome other : Outcome)
    → Applies config command outcome → Applies config command other
    → outcome ≢ Err refusal.OutOfMemory → other ≢ Err refusal.OutOfMemory → outcome ≡ other

-- ---- what is kept

-- A set of names, identifiers, places and values as sets have them, whose TTL, codes and letters
-- are within their bounds, and whose values are of its type.
pub record IsBoundedSet (set : RecordSet) : Type 0 where
  pub parts : IsSet set
  pub routing : IsSpelledRouting set.routing
  pub body : IsSpelledBody set.body
  pub of_type : AreOfType set.rtype set.body

abbrev pub HasBoundedSet : Change → Type 0
HasBoundedSet change = IsBoundedSet change.set

-- The bounds that a command meets which was read: from a line, or from octets.
abbrev pub IsBounded : Command → Type 0
IsBounded (command.CreateZone name servers) =
    IsName name × AllByRecursion IsName servers × (length servers ≡ 4)
IsBounded (command.DeleteZone id) = ⊤
IsBounded (command.Change batch) = AllByRecursion HasBoundedSet batch.changes
IsBounded (command.Health health) = IsBoundedCommand health
IsBounded (command.Cidr cidr) = HasNames cidr

-- What a command makes of a sound configuration is sound.
abbrev pub KeepsSound : Type 0
KeepsSound = (config after : Config) (command : Command) (what : Made)
    → Sound config → IsBounded command → Decides config command (Ok (after, what)) → Sound after

-- The configuration of a new server is sound.
abbrev pub EmptyIsSound : Type 0
EmptyIsSound = Sound empty
