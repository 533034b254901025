use Rattle.command_octets.specs.declared.commands.Command.TheVariants as command
use Rattle.config_model.proofs.Batched.{batch_keeps}
use Rattle.config_model.proofs.Checked.{checks_keep, collections_keep}
use Rattle.config_model.proofs.Ended.{end_keeps}
use Rattle.config_model.proofs.Opened.{create_keeps}
use Rattle.config_model.specs.Laws.{KeepsSound}
use Rattle.config_model.proofs.laws.commands_keep_sound.Goals as goal

pub returns : goal.returns
returns c = keeps
  where
    keeps : KeepsSound
    keeps config after (command.CreateZone name servers) what sound bounds e =
        create_keeps c.refusals_are_told.ensures c.one_name_of_a_wire.ensures config sound name
        servers bounds.0 bounds.1 bounds.2 after what e
    keeps config after (command.DeleteZone id) what sound bounds e =
        end_keeps config sound id after what e
    keeps config after (command.Change batch) what sound bounds e =
        batch_keeps config batch sound bounds c.zones_stay.ensures after what e
    keeps config after (command.Health health) what sound bounds e =
        checks_keep c.refusals_are_told.ensures config sound health bounds
        c.commands_keep_sound.ensures c.rest_is_left.ensures after what e
    keeps config after (command.Cidr cidr) what sound bounds e =
        collections_keep c.refusals_are_told.ensures config sound cidr bounds
        c.commands_keep_sound-2.ensures c.commands_keep_used.ensures after what e
