-- A command that is ready is accepted.
use Rattle.std.proofs.Common.{Option, None, Some}
use Rattle.sound_configs.specs.CommandRecord.{Command}
use Rattle.config_opening.specs.Kept.{IsAccepted, IsReady, IsWorkReady, Prepared, State, config_in}
use Rattle.query_engine.specs.Edits.{Prepared as ReadyEdit}

by_work : (state : State) (command : Command) (edit : Option ReadyEdit)
    → IsWorkReady state command edit → IsAccepted (config_in state) command
by_work state command (Some ready) (kind, room, (after, what, decides, leads, about)) =
    (after, what, decides)
by_work state command None (kind, accepted, room) = accepted

pub accepted : (state : State) (prepared : Prepared) → IsReady state prepared
    → IsAccepted (config_in state) prepared.command
accepted state prepared ready = by_work state prepared.command prepared.edit ready.work
