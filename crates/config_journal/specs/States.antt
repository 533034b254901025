-- A configuration with its journal, and a command that is ready to be committed.
use Rattle.std.specs.Prelude.{◌≡◌, ℕ, List}
use Rattle.r53_state.specs.OctetsOfCommandOctets.{HasSpelling, command_octets}
use Rattle.r53_state.specs.Configs.{Config}
use Rattle.r53_state.specs.States.{IsReady as IsPrepared, Prepared, State as Kept, config_in}
use Rattle.zone_journal.specs.Standing.{State as Journal}

-- What is kept of the configuration, and its journal.
pub record State : Type 0 where
  pub config : Kept
  pub journal : Journal

-- the configuration
abbrev pub config_of : State → Config
config_of state = config_in state.config

-- a command that is prepared, and its entry
pub record Ready : Type 0 where
  pub prepared : Prepared
  pub entry : List ℕ

-- A command is ready: the configuration can make it with no more memory, and its entry is its octets
-- in the version that is written.
pub record IsReady (state : State) (ready : Ready) : Type 0 where
  pub prepared : IsPrepared state.config ready.prepared
  pub spelled : HasSpelling 2 ready.prepared.command
  pub entry : ready.entry ≡ command_octets ready.prepared.command
