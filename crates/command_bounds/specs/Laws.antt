-- What is known of commands.
use Rattle.std.specs.Prelude.{ℕ, ◌<◌, ◌≤◌, ◌^◌, List, length, Ok, ⊤}
use Rattle.std.specs.List.{AllByRecursion}
use Rattle.config_model.specs.CidrChangeRecord.{CidrChange}
use Rattle.config_model.specs.CidrCommandRecord.{CidrCommand}
use Rattle.config_model.specs.CidrCommandRecord.TheVariants as cidr
use Rattle.command_codec.specs.Commands.{Spells}
use Rattle.command_codec.specs.Octets.{HasSpelling, command_octets}
use Rattle.command_codec.specs.CommandRecord.{Command}
use Rattle.command_codec.specs.CommandRecord.TheVariants as command
use Rattle.config_model.specs.Applying.{Decides}
use Rattle.config_model.specs.Configs.{Config}
use Rattle.config_model.specs.Laws.{IsBounded}
use Rattle.config_model.specs.Sound.{Sound}
use Rattle.config_model.specs.declared.refusals.Made.{Made}

-- The command that octets are, in either version, is within its bounds.
abbrev pub SpelledAreBounded : Type 0
SpelledAreBounded = (octets : List ℕ) (given : Command) → Spells octets given → IsBounded given

-- A change lists at most 1,000 blocks.
abbrev pub IsShortChange : CidrChange → Type 0
IsShortChange change = length change.blocks ≤ 1000

-- Each list of a command on collections has at most 1,000 elements: the changes, and the blocks of
-- each.
abbrev pub AreShortLists : CidrCommand → Type 0
AreShortLists (cidr.Create name) = ⊤
AreShortLists (cidr.Change id changes) =
    (length changes ≤ 1000) × AllByRecursion IsShortChange changes
AreShortLists (cidr.Delete id) = ⊤

-- A command on collections has short lists. Of other commands nothing is asked.
abbrev pub HasShortLists : Command → Type 0
HasShortLists (command.CreateZone name servers) = ⊤
HasShortLists (command.DeleteZone id) = ⊤
HasShortLists (command.Change batch) = ⊤
HasShortLists (command.Health health) = ⊤
HasShortLists (command.Cidr given) = AreShortLists given

-- A command that a sound configuration accepts has a spelling in the version that is written.
abbrev pub AcceptedHaveSpelling : Type 0
AcceptedHaveSpelling = (config after : Config) (given : Command) (what : Made)
    → Sound config → IsBounded given → HasShortLists given
    → Decides config given (Ok (after, what)) → HasSpelling 2 given

-- It has fewer than 2^32 octets in that version, as an entry of a journal has to.
abbrev pub AcceptedAreShort : Type 0
AcceptedAreShort = (config after : Config) (given : Command) (what : Made)
    → Sound config → IsBounded given → HasShortLists given
    → Decides config given (Ok (after, what)) → length (command_octets given) < 2 ^ 32
