-- What is read of a snapshot.
use Rattle.std.specs.Prelude.{◌≡◌, ℕ, List, Result, Ok, Err, ⊤}
use Rattle.check_commands.specs.Configs.{Config}
use Rattle.config_reading.specs.Reading.{IsOfNone, IsOfSound}
use Rattle.r53_state.specs.States.{State, config_in, nothing_told}
use Rattle.config_reading.specs.SnapshotFaultRecord.{SnapshotFault}
use Rattle.config_reading.specs.SnapshotFaultRecord.TheVariants as fault

-- Octets are a snapshot of a sound configuration, which is read, with nothing told of sets; or they
-- are one of none; or memory is wanted.
abbrev pub GivesSnapshot : (octets : List ℕ) → Result State SnapshotFault → Type 0
GivesSnapshot octets (Ok state) =
    IsOfSound octets (config_in state) × (state.told ≡ nothing_told)
GivesSnapshot octets (Err fault.Bad) = IsOfNone octets
GivesSnapshot octets (Err fault.OutOfMemory) = ⊤

-- A configuration is read as it was, or memory is wanted.
abbrev pub ComesBack : Config → Result State SnapshotFault → Type 0
ComesBack config (Ok state) = config_in state ≡ config
ComesBack config (Err fault.Bad) = ⊥
ComesBack config (Err fault.OutOfMemory) = ⊤
