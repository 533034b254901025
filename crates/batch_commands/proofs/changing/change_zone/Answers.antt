use Rattle.std.proofs.Common.{◌∙◌, subst, sym}
use Rattle.std.specs.Prelude.{Err}
use Rattle.std.proofs.lemmas.Bool.{false≢true}
use Rattle.config_zones.specs.CommandRecord.TheVariants as command
use Rattle.config_zones.specs.RefusalRecord.{Refusal}
use Rattle.config_zones.specs.Configured.{TellsEdit, config_of}
use Rattle.batch_commands.proofs.Changed.{allowed_so, comes_so, edited, its_apex, meets, none_there}
use Rattle.batch_commands.proofs.Changed.{refused_behind, refused_itself}
use Rattle.batch_commands.proofs.changing.change_zone.Goals as goal

pub returns-then-not-is_there : goal.returns-then-not-is_there
returns-then-not-is_there c = λ next sound.
    none_there c.args.zones.now c.args.checks.now.checks next c.args.batch.now
    c.zones_are_found.ensures
    (λ has. false≢true (sym c.if-not-is_there.true ∙ c.is_there.ensures.1 has))

pub edit_of-requires-clause-rules : goal.edit_of-requires-clause-rules
edit_of-requires-clause-rules c = λ apex is.
    let sound = c.requires.sound in
    meets c.args.zones.now c.args.checks.now.checks sound.0 c.args.batch.now.zone sound.1
    c.well_formed-2.ensures (c.is_there.ensures.0 c.if-not-is_there.false) apex is
    c.one_apex.ensures

pub returns-in-Err : goal.returns-in-Err
returns-in-Err c = λ next sound.
    let table = c.args.zones.now in
    let given = c.args.batch.now in
    let checks = c.args.checks.now.checks in
    let there = c.is_there.ensures.0 c.if-not-is_there.false in
    let is = its_apex table.zones given.zone there in
    subst (λ (why : Refusal). TellsEdit (config_of table checks next) (command.Change given) table
    (Err why)) (sym c.of_batch.ensures)
    (refused_itself table checks next given c.zones_are_found.ensures there.0.apex
    c.well_formed-2.ensures is c.in-Err.why (c.in-Err.ensures there.0.apex is))

pub refusal_of-requires-clause-allowed : goal.refusal_of-requires-clause-allowed
refusal_of-requires-clause-allowed c =
    let table = c.args.zones.now in
    let given = c.args.batch.now in
    let there = c.is_there.ensures.0 c.if-not-is_there.false in
    let is = its_apex table.zones given.zone there in
    allowed_so table.zones given.zone there.0.apex given.changes c.in-Ok.edit
    (c.in-Ok.ensures there.0.apex is) c.as_slice-remove.result.now c.as_slice-add.result.now
    c.as_slice-remove.ensures c.as_slice-add.ensures

pub refusal_of-requires-clause-comes : goal.refusal_of-requires-clause-comes
refusal_of-requires-clause-comes c =
    let table = c.args.zones.now in
    let given = c.args.batch.now in
    let there = c.is_there.ensures.0 c.if-not-is_there.false in
    let is = its_apex table.zones given.zone there in
    comes_so table.zones given.zone there.0.apex given.changes c.in-Ok.edit
    (c.in-Ok.ensures there.0.apex is) c.as_slice-remove.result.now c.as_slice-add.result.now
    c.as_slice-remove.ensures c.as_slice-add.ensures

pub returns-in-Ok-None : goal.returns-in-Ok-None
returns-in-Ok-None c = λ next sound.
    let table = c.args.zones.now in
    let given = c.args.batch.now in
    let there = c.is_there.ensures.0 c.if-not-is_there.false in
    let is = its_apex table.zones given.zone there in
    edited table c.args.checks.now.checks next given c.zones_are_found.ensures there.0.apex
    c.well_formed-2.ensures is c.in-Ok.edit (c.in-Ok.ensures there.0.apex is)
    c.as_slice-remove.result.now c.as_slice-add.result.now c.as_slice-remove.ensures
    c.as_slice-add.ensures c.edits_are_told.ensures
    (sym c.in-Ok-None.field-0-is ∙ c.in-Ok-None.ensures)

pub returns-in-Ok-Some : goal.returns-in-Ok-Some
returns-in-Ok-Some c = λ next sound.
    let table = c.args.zones.now in
    let given = c.args.batch.now in
    let there = c.is_there.ensures.0 c.if-not-is_there.false in
    let is = its_apex table.zones given.zone there in
    refused_behind table c.args.checks.now.checks next given c.zones_are_found.ensures
    there.0.apex c.well_formed-2.ensures is c.in-Ok.edit (c.in-Ok.ensures there.0.apex is)
    c.as_slice-remove.result.now c.as_slice-add.result.now c.as_slice-remove.ensures
    c.as_slice-add.ensures c.in-Ok-Some.why
    (sym c.in-Ok-Some.field-0-is ∙ c.in-Ok-Some.ensures)
