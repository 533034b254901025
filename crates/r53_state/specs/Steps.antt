-- What a step of a configuration is.
use Rattle.std.specs.Prelude.{◌≡◌, ◌+◌, ℕ, Option, None, Some, Result, Ok, Err, ⊤}
use Rattle.check_model.specs.Checks.{Checks}
use Rattle.check_model.specs.Commands.{IsBoundedCommand, checks_after, refusal_of}
use Rattle.zone_commands.specs.CommandRecord.{Command}
use Rattle.zone_commands.specs.CommandRecord.TheVariants as command
use Rattle.check_commands.specs.Applying.{Applies}
use Rattle.check_commands.specs.Configs.{Config}
use Rattle.check_commands.specs.Others.{made_check, made_collection}
use Rattle.check_commands.specs.MadeRecord.{Made}
use Rattle.check_commands.specs.MadeRecord.TheVariants as made
use Rattle.check_commands.specs.RefusalRecord.{Refusal}
use Rattle.zone_commands.specs.Configured.{IsEditFor}
use Rattle.r53_state.specs.States.{IsAccepted, IsOnChecks, State, nothing_told}
use Rattle.zone_commands.specs.Edits.{Edits, Prepared as ReadyEdit}
use Rattle.zone_commands.specs.Tables.{Table}
use Rattle.zone_commands.specs.ZoneEditRecord.{ZoneEdit}

-- A command is accepted, with the edit of the zones that it makes unless it is on health checks; or
-- it is refused, where memory may be wanted.
abbrev pub TellsWork : Config → Command → Table → Result (Option ZoneEdit) Refusal → Type 0
TellsWork config command table (Ok (Some made)) =
    (IsOnChecks command → ⊥) × IsEditFor config command table made
TellsWork config command table (Ok None) = IsOnChecks command × IsAccepted config command
TellsWork config command table (Err why) = Applies config command (Err why)

-- What is told of sets is what the edit took away and put, and no other set changes its slot. Where
-- there was no edit nothing is told, and the table of zones is as it was.
abbrev pub TellsSets : (before : State) → Option ReadyEdit → (after : State) → Type 0
TellsSets before (Some ready) after =
    Edits before.table.zones ready.made after.table.zones after.told
TellsSets before None after = (after.told ≡ nothing_told) × (after.table ≡ before.table)

-- what a command that is accepted makes, by its number
abbrev pub made_of : Config → Command → Made
made_of config (command.CreateZone name servers) = made.Zone config.next_zone
made_of config (command.DeleteZone id) = made.Nothing
made_of config (command.Change batch) = made.Nothing
made_of config (command.Health health) = made_check config.checks health
made_of config (command.Cidr cidr) = made_collection config.collections cidr

-- a command by which a zone comes
abbrev pub BeginsZone : Command → Type 0
BeginsZone (command.CreateZone name servers) = ⊤
BeginsZone other = ⊥

-- the number that the next zone gets after a command
abbrev pub next_after : ℕ → Command → ℕ
next_after next (command.CreateZone name servers) = next + 1
next_after next other = next

-- the checks after a command
abbrev pub checks_of : Checks → Command → Checks
checks_of checks (command.Health health) = checks_after checks health
checks_of checks other = checks

-- The table of checks can make a command, where it is one on checks.
abbrev pub CanApply : Checks → Command → Type 0
CanApply checks (command.Health health) =
    (refusal_of checks health ≡ None) × IsBoundedCommand health
CanApply checks other = ⊤

-- the edit, as one that there is
abbrev pub some_edit : Result ZoneEdit Refusal → Result (Option ZoneEdit) Refusal
some_edit (Ok made) = Ok (Some made)
some_edit (Err why) = Err why
