use Rattle.zone_commands.specs.Configured.{config_of}
use Rattle.r53_state.proofs.Working.{accepted_for, only_for, some_for}
use Rattle.r53_state.proofs.editing.work_for.Goals as goal

pub create_zone-requires : goal.create_zone-requires
create_zone-requires c = record { sound = (c.args.checks.now.checks, c.requires.sound) }

pub change_zone-requires-clause-sound : goal.change_zone-requires-clause-sound
change_zone-requires-clause-sound c = (c.args.next, c.requires.sound)

pub returns-in-CreateZone : goal.returns-in-CreateZone
returns-in-CreateZone c =
    some_for (config_of c.args.zones.now c.args.checks.now.checks c.args.next) c.args.zones.now
    c.args.command.now _ c.in-CreateZone.is (λ on. on) c.create_zone.result c.some.result
    c.some.ensures (c.create_zone.ensures c.args.checks.now.checks c.requires.sound)

pub returns-in-DeleteZone : goal.returns-in-DeleteZone
returns-in-DeleteZone c =
    only_for (config_of c.args.zones.now c.args.checks.now.checks c.args.next) c.args.zones.now
    c.args.command.now _ c.in-DeleteZone.is (λ on. on) c.delete_zone.result
    c.some-in-DeleteZone.result c.some-in-DeleteZone.ensures
    (c.delete_zone.ensures c.args.checks.now.checks c.args.next)

pub returns-in-Change : goal.returns-in-Change
returns-in-Change c =
    some_for (config_of c.args.zones.now c.args.checks.now.checks c.args.next) c.args.zones.now
    c.args.command.now _ c.in-Change.is (λ on. on) c.change_zone.result c.some-in-Change.result
    c.some-in-Change.ensures (c.change_zone.ensures c.args.next c.requires.sound)

pub returns-in-Ok : goal.returns-in-Ok
returns-in-Ok c =
    accepted_for (config_of c.args.zones.now c.args.checks.now.checks c.args.next) _
    c.args.command.now c.in-Health.is c.in-Ok.field-0 c.in-Ok.ensures

pub returns-in-Cidr : goal.returns-in-Cidr
returns-in-Cidr c =
    some_for (config_of c.args.zones.now c.args.checks.now.checks c.args.next) c.args.zones.now
    c.args.command.now _ c.in-Cidr.is (λ on. on) c.change_collections.result
    c.some-in-Cidr.result c.some-in-Cidr.ensures
    (c.change_collections.ensures c.args.checks.now.checks c.args.next)
