use Rattle.std.proofs.Common.{subst, sym}
use Rattle.check_commands.specs.Sound.{Sound}
use Rattle.zone_commands.specs.Configured.{config_of}
use Rattle.zone_commands.specs.Edits.{IsAllowed}
use Rattle.r53_state.specs.States.{State, config_in}
use Rattle.r53_state.proofs.Installed.{edit_installed}
use Rattle.r53_state.proofs.config.Config.make_edit.Goals as goal

pub invariant_of-self : goal.invariant_of-self
invariant_of-self c = (
  c.commands_keep_sound.ensures (config_in c.args.self.now)
      (config_of c.edit.new.self c.self.inside.checks.checks c.next_after-self-inside.result)
      c.args.command.now c.made_by-made.result
      (subst (λ (s : State). Sound (config_in s)) c.self.view_is c.self.invariant.0) c.requires.bounded
      (edit_installed c.args.self.now c.self.inside.zones c.edit.new.self c.self.inside.checks
      c.self.inside.next_zone c.next_after-self-inside.result c.self.inside.told c.edit.result
      c.self.view_is c.args.command.now c.requires.kind c.args.ready.made c.requires.edit
      c.well_formed-2.ensures c.well_formed-3.ensures c.edit.ensures.edits
      c.edit.ensures.collections c.next_after-self-inside.ensures c.made_by-made.result
      c.made_by-made.ensures),
  c.note.ensures c.self.inside.zones.zones c.args.ready.made c.well_formed-2.ensures
      c.slots_apart.ensures
      (subst (λ (s : State). IsAllowed s.table.zones c.args.ready.made) (sym c.self.view_is)
      c.requires.ready.allowed)
      c.edit.ensures.edits c.self.invariant.1,
)

pub returns-clause-installed : goal.returns-clause-installed
returns-clause-installed c =
    edit_installed c.args.self.now c.self.inside.zones c.edit.new.self c.self.inside.checks
    c.self.inside.next_zone c.next_after-self-inside.result c.self.inside.told c.edit.result
    c.self.view_is c.args.command.now c.requires.kind c.args.ready.made c.requires.edit
    c.well_formed-2.ensures c.well_formed-3.ensures c.edit.ensures.edits
    c.edit.ensures.collections c.next_after-self-inside.ensures c.made_by-made.result
    c.made_by-made.ensures
