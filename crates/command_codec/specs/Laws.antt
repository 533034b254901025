-- Laws over the definitions of this crate.
use Rattle.std.specs.Prelude.{◌≡◌, ◌≤◌, ℕ, List, ◌++◌, length, Result, Ok, Err}
use Rattle.set_reading.specs.Names.{AreOctets}
use Rattle.command_octets.specs.declared.commands.Command.{Command}
use Rattle.command_codec.specs.Commands.{IsCommand, Spells}
use Rattle.command_octets.specs.Octets.{IsVersion, spelling, HasSpelling}
use Rattle.command_codec.specs.Reading.{read}

-- In each version one command has one spelling, and no spelling of either version begins another: octets begin with the
-- spelling of one command in one version at most.
abbrev pub OneSpelling : Type 0
OneSpelling =
    (version other_version : ℕ) (command other : Command) (rest others : List ℕ) → IsVersion version → IsVersion other_version
    → IsCommand command → IsCommand other → HasSpelling version command → HasSpelling other_version other
    → spelling version command ++ rest ≡ spelling other_version other ++ others
    → (version ≡ other_version) × (command ≡ other) × (rest ≡ others)

-- What is written, in either version, is read again.
abbrev pub WrittenReadsBack : Type 0
WrittenReadsBack =
    (version : ℕ) (command : Command) → IsVersion version → IsCommand command → HasSpelling version command
    → read (spelling version command) ≡ Ok command

-- The octets of a command are read as nothing else.
abbrev pub ReadAsNothingElse : Type 0
ReadAsNothingElse =
    (octets : List ℕ) (command : Command) (other : Result Command ℕ) → Spells octets command → read octets ≡ other → other ≡ Ok command

-- What reading tells: the command that octets are; or a place among them, or behind the last, where they are none.
abbrev pub TellsCommand : List ℕ → Result Command ℕ → Type 0
TellsCommand octets (Ok command) = Spells octets command
TellsCommand octets (Err place) = (place ≤ length octets) × ((command : Command) → Spells octets command → ⊥)

abbrev pub CommandsAreTold : Type 0
CommandsAreTold = (octets : List ℕ) → AreOctets octets → TellsCommand octets (read octets)
