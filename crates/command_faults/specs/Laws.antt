-- Where the first fault of the octets of a command stands.
use Rattle.std.specs.Prelude.{◌≡◌, ℕ, ◌+◌, ◌<◌, ◌≤◌, ◌⊎◌, ◌↔◌, List, ◌++◌, length, Err}
use Rattle.std.specs.List.{AllByRecursion}
use Rattle.set_reading.specs.Names.{AreOctets}
use Rattle.command_octets.specs.declared.commands.Command.{Command}
use Rattle.command_codec.specs.Reading.{read}
use Rattle.fault_places.specs.Fields.{Field, spelling, StopsIn}
use Rattle.command_faults.specs.Commands.{fields_of, octets_of_command, IsCommandInGrammar, HasLongSetAt, HasSurplusAt}

-- The octets of a command are its fields, one behind another.
abbrev pub CommandsAreFields : Type 0
CommandsAreFields =
    (versioned : ℕ × Command) → octets_of_command versioned ≡ spelling (fields_of versioned)

-- Each field of a command has an octet at least.
abbrev pub NoFieldIsEmpty : Type 0
NoFieldIsEmpty =
    (versioned : ℕ × Command) → IsCommandInGrammar versioned
    → AllByRecursion (λ (field : Field). 0 < length field.octets) (fields_of versioned)

-- Octets stop at this place on their way to a command.
pub record CommandStopsAt (octets : List ℕ) (place : ℕ) : Type 0 where
  pub left : ℕ
  pub behind : place + left ≡ length octets
  pub stops : StopsIn IsCommandInGrammar fields_of octets left

-- octets that are the first of a command's in one of the versions, however long its sets
abbrev pub GoesOn : List ℕ → Type 0
GoesOn octets =
    (versioned : ℕ × Command) × (more : List ℕ) × IsCommandInGrammar versioned
    × (octets ++ more ≡ octets_of_command versioned)

-- octets with which no command's agree as far as both go
abbrev pub CanBeNoCommand : List ℕ → Type 0
CanBeNoCommand octets =
    (versioned : ℕ × Command) (more rest : List ℕ) → IsCommandInGrammar versioned
    → octets ++ more ≡ octets_of_command versioned ++ rest → ⊥

-- Up to the field where octets stop they could go on to a command. There they end; or with what
-- stands there they can't.
abbrev pub FaultsStandFirst : Type 0
FaultsStandFirst =
    (octets : List ℕ) (place : ℕ) (stops : CommandStopsAt octets place)
    → GoesOn stops.stops.before × (length stops.stops.before ≤ place)
    × ((place ≡ length octets) ⊎ CanBeNoCommand octets)

-- Where octets stop on their way to a command, with no set before it that is longer than sets may
-- be; where such a set begins; or behind a whole command.
abbrev pub HasFaultAt : (octets : List ℕ) (place : ℕ) → Type 0
HasFaultAt octets place =
    (CommandStopsAt octets place × ((other : ℕ) → HasLongSetAt octets other → other < place → ⊥))
    ⊎ (HasLongSetAt octets place ⊎ HasSurplusAt octets place)

-- Reading tells this place exactly where octets have their fault at it.
abbrev pub CommandFaultsAsTold : Type 0
CommandFaultsAsTold =
    (octets : List ℕ) (place : ℕ) → AreOctets octets
    → (read octets ≡ Err place) ↔ HasFaultAt octets place

-- Octets have one fault at most.
abbrev pub OneFaultOfOctets : Type 0
OneFaultOfOctets =
    (octets : List ℕ) (place other : ℕ) → AreOctets octets → HasFaultAt octets place
    → HasFaultAt octets other → place ≡ other
