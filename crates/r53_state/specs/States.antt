-- What is kept of a configuration, and a command that is ready to be installed.
use Rattle.std.specs.Prelude.{ℕ, [], Option, None, Some, Ok, ⊤}
use Rattle.zone_commands.specs.CommandRecord.{Command}
use Rattle.zone_commands.specs.CommandRecord.TheVariants as command
use Rattle.check_commands.specs.Applying.{Decides}
use Rattle.check_commands.specs.Configs.{Config}
use Rattle.check_commands.specs.Laws.{IsBounded}
use Rattle.check_commands.specs.MadeRecord.{Made}
use Rattle.zone_commands.specs.Configured.{IsEditFor, config_of}
use Rattle.health_check.specs.Stored.{HasRoom, Kept}
use Rattle.zone_commands.specs.Edits.{IsReady as IsEditReady, Prepared as ReadyEdit}
use Rattle.zone_commands.specs.Tables.{Table}
use Rattle.zone_commands.specs.DeltaRecord.{Delta}

-- The table of zones with the collections, the health checks, the number that the next zone gets,
-- and the sets that the last command took away and put.
pub record State : Type 0 where
  pub table : Table
  pub checks : Kept
  pub next_zone : ℕ
  pub told : Delta

-- the configuration that it stands for
abbrev pub config_in : State → Config
config_in state = config_of state.table state.checks.checks state.next_zone

-- no sets went, and none came
abbrev pub nothing_told : Delta
nothing_told = record { zone = 0; removed = []; added = [] }

-- ---- commands that are ready

-- A command, and the edit of the zones that is ready for it. One on health checks has none.
pub record Prepared : Type 0 where
  pub command : Command
  pub edit : Option ReadyEdit

-- a command on health checks
abbrev pub IsOnChecks : Command → Type 0
IsOnChecks (command.Health health) = ⊤
IsOnChecks other = ⊥

-- a command is accepted
abbrev pub IsAccepted : Config → Command → Type 0
IsAccepted config command =
    (after : Config) × (what : Made) × Decides config command (Ok (after, what))

-- What the command asks for is ready: its edit of the zones, or room for a check.
abbrev pub IsWorkReady : State → Command → Option ReadyEdit → Type 0
IsWorkReady state command (Some ready) =
    (IsOnChecks command → ⊥) × IsEditReady state.table ready
    × IsEditFor (config_in state) command state.table ready.made
IsWorkReady state command None =
    IsOnChecks command × IsAccepted (config_in state) command × HasRoom state.checks 1

-- A command is ready: it is within its bounds, it is accepted, and it wants no more memory.
pub record IsReady (state : State) (prepared : Prepared) : Type 0 where
  pub bounded : IsBounded prepared.command
  pub work : IsWorkReady state prepared.command prepared.edit

-- each command that was ready still is
abbrev pub StayReady : (before after : State) → Type 0
StayReady before after = (prepared : Prepared) → IsReady before prepared → IsReady after prepared
