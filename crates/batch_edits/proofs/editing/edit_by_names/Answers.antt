use Rattle.std.proofs.Common.{◌≡◌, ◌∙◌, ap, subst, sym, List}
use Rattle.std.specs.Borrow.{Bor}
use Rattle.change_batch.specs.ChangeRecord.{Change}
use Rattle.batch_names.specs.Named.{named_in}
use Rattle.record_set.specs.declared.sets.RecordSet.{RecordSet}
use Rattle.batch_names.specs.AllZones.{placed_in}
use Rattle.config_model.specs.Slotted.{sets_of}
use Rattle.config_model.specs.Differences.{IsDifference}
use Rattle.change_batch.specs.LentSets.{sets_lent}
use Rattle.batch_edits.proofs.Whole.{edited_whole, few_of_zone, refused_whole}
use Rattle.batch_edits.proofs.editing.edit_by_names.Goals as goal

pub prepare_lent-requires : goal.prepare_lent-requires
prepare_lent-requires c =
    let whole = sets_of (placed_in c.args.zones.now.zones c.args.batch.now.zone) in
    let few : c.as_slice.result.now ≡ named_in c.args.batch.now.changes whole =
    c.as_slice.ensures.value ∙ c.in-Ok.ensures
    ∙ ap (λ (changes : List Change). named_in changes whole) c.as_slice-changes.ensures in
    few_of_zone c.names_decide.ensures c.one_apex.ensures c.sets_of_one.ensures
    c.args.zones.now.zones c.args.batch.now.zone c.in-Some.apex c.args.batch.now.changes
    c.as_slice.result.now c.well_formed-2.ensures c.in-Some.ensures few

pub returns-in-Err-prepare_lent : goal.returns-in-Err-prepare_lent
returns-in-Err-prepare_lent c =
    let whole = sets_of (placed_in c.args.zones.now.zones c.args.batch.now.zone) in
    let few : c.as_slice.result.now ≡ named_in c.args.batch.now.changes whole =
    c.as_slice.ensures.value ∙ c.in-Ok.ensures
    ∙ ap (λ (changes : List Change). named_in changes whole) c.as_slice-changes.ensures in
    refused_whole c.names_decide.ensures c.one_apex.ensures c.sets_of_one.ensures
    c.args.zones.now.zones c.args.batch.now.zone c.in-Some.apex c.args.batch.now.changes
    c.as_slice.result.now c.well_formed-2.ensures c.in-Some.ensures few c.requires.rules
    c.in-Err-prepare_lent.why c.in-Err-prepare_lent.ensures.answer

pub difference-requires-clause-before : goal.difference-requires-clause-before
difference-requires-clause-before c =
    let whole = sets_of (placed_in c.args.zones.now.zones c.args.batch.now.zone) in
    let few : c.as_slice-2.result.now ≡ named_in c.args.batch.now.changes whole =
    c.as_slice-2.ensures.value ∙ c.in-Ok.ensures
    ∙ ap (λ (changes : List Change). named_in changes whole) c.as_slice-changes.ensures in
    let zone =
    few_of_zone c.names_decide.ensures c.one_apex.ensures c.sets_of_one.ensures
    c.args.zones.now.zones c.args.batch.now.zone c.in-Some.apex c.args.batch.now.changes
    c.as_slice-2.result.now c.well_formed-2.ensures c.in-Some.ensures few in
    zone.rising

pub returns-in-Ok-difference : goal.returns-in-Ok-difference
returns-in-Ok-difference c =
    let whole = sets_of (placed_in c.args.zones.now.zones c.args.batch.now.zone) in
    let few : c.as_slice.result.now ≡ named_in c.args.batch.now.changes whole =
    c.as_slice.ensures.value ∙ c.in-Ok.ensures
    ∙ ap (λ (changes : List Change). named_in changes whole) c.as_slice-changes.ensures in
    edited_whole c.names_decide.ensures c.one_apex.ensures c.sets_of_one.ensures
    c.args.zones.now.zones c.args.batch.now.zone c.in-Some.apex c.args.batch.now.changes
    c.as_slice.result.now c.well_formed-2.ensures c.in-Some.ensures few c.requires.rules
    c.requires.bounded (sets_lent c.in-Ok-prepare_lent.sets.items) c.in-Ok-difference.edit
    c.in-Ok-prepare_lent.ensures.answer c.in-Ok-prepare_lent.ensures.zone
    (subst (λ (a : List (Bor RecordSet)). IsDifference c.as_slice.result.now (sets_lent a)
    c.in-Ok-difference.edit.remove c.in-Ok-difference.edit.add) c.as_slice-3.ensures.value
    (subst (λ (s : List RecordSet). IsDifference s (sets_lent c.as_slice-3.result.now)
    c.in-Ok-difference.edit.remove c.in-Ok-difference.edit.add)
    (c.as_slice-2.ensures.value ∙ sym c.as_slice.ensures.value)
    c.in-Ok-difference.ensures))
