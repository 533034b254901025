use Rattle.std.proofs.Common.{Some, List, subst}
use Rattle.std.specs.Prelude.{Option, IfSome}
use Rattle.batch_limits.specs.Tests.{TellsLimits}
use Rattle.batch_names.specs.AllZones.{placed_in}
use Rattle.change_batch.specs.ChangeRecord.{Change}
use Rattle.config_model.specs.Slotted.{sets_of}
use Rattle.record_set.specs.declared.sets.RecordSet.{RecordSet}
use Rattle.batch_edits.specs.Replacing.{IsReplaced}
use Rattle.batch_edits.proofs.Replaced.{refused_by_limits, replaced_so}
use Rattle.batch_edits.proofs.replacing.replacing_edit.Goals as goal

pub returns-in-Some-check_limits-clause-refused : goal.returns-in-Some-check_limits-clause-refused
returns-in-Some-check_limits-clause-refused c =
    refused_by_limits c.names_decide.ensures c.one_apex.ensures c.sets_of_one.ensures
    c.args.zones.now.zones c.args.batch.now.zone c.in-Some.apex c.args.batch.now.changes
    c.well_formed-2.ensures c.in-Some.ensures c.in-Some-check_limits.why
    (subst (λ (cs : List Change). TellsLimits cs c.in-Some.apex (Some c.in-Some-check_limits.why))
    c.as_slice-changes.ensures c.in-Some-check_limits.ensures)

pub returns-in-Ok-clause-edits : goal.returns-in-Ok-clause-edits
returns-in-Ok-clause-edits c =
    let whole = sets_of (placed_in c.args.zones.now.zones c.args.batch.now.zone) in
    let given = c.as_slice-changes.result.now in
    let is : IsReplaced whole given c.in-Ok-Some.set =
    subst (λ (o : Option RecordSet). IfSome o (λ set. IsReplaced whole given set))
    c.in-Ok-Some.field-0-is c.in-Ok-Some.ensures in
    replaced_so c.names_decide.ensures c.one_apex.ensures c.sets_of_one.ensures
    c.args.zones.now.zones c.args.batch.now.zone c.in-Some.apex c.args.batch.now.changes
    c.well_formed-2.ensures c.in-Some.ensures c.requires.rules c.requires.bounded c.in-Ok-Some.set
    given c.as_slice-changes.ensures is c.in_default-check_limits.ensures c.in-Ok.edit
    c.in-Ok.ensures
