use Rattle.std.proofs.Common.{◌∙◌, ap, subst, sym}
use Rattle.config_zones.specs.Sound.{Sound}
use Rattle.config_zones.specs.Configured.{config_of}
use Rattle.config_reading.proofs.Extending.{allowed, opened}
use Rattle.config_reading.specs.Reading.{with_zone}
use Rattle.config_reading.proofs.opening.open.Goals as goal

pub make-requires : goal.make-requires
make-requires c =
    allowed c.args.zones.now c.args.checks.now.checks c.args.next_zone c.args.zone.id
    c.args.zone.apex c.from_vec.result (c.in-Ok-true.ensures.0 c.in-Ok-true.field-0-test)

pub returns-clause-config : goal.returns-clause-config
returns-clause-config c =
    let table = c.args.zones.now in
    let checks = c.args.checks.now.checks in
    let next = c.args.next_zone in
    let zone = c.args.zone in
    let edits = c.in-Ok.ensures.edits in
    opened table checks next zone.id zone.apex c.from_vec.result c.edits_are_told.ensures
    c.make.new.zones c.well_formed-2.ensures c.well_formed-3.ensures
    (c.in-Ok-true.ensures.0 c.in-Ok-true.field-0-test) edits.0 edits.1 c.in-Ok.ensures.collections
    ∙ ap (λ sets. with_zone (config_of table checks next)
    (record { id = zone.id; apex = zone.apex; sets = sets })) c.from_vec.ensures

pub returns-clause-sound : goal.returns-clause-sound
returns-clause-sound c =
    let edits = c.in-Ok.ensures.edits in
    let sound = c.in-Ok-true.ensures.0 c.in-Ok-true.field-0-test in
    subst Sound (sym (opened c.args.zones.now c.args.checks.now.checks c.args.next_zone
    c.args.zone.id c.args.zone.apex c.from_vec.result c.edits_are_told.ensures
    c.make.new.zones c.well_formed-2.ensures c.well_formed-3.ensures sound edits.0 edits.1
    c.in-Ok.ensures.collections)) sound
