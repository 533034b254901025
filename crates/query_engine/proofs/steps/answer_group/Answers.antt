use Rattle.std.proofs.Common.{◌≡◌, ◌∙◌, ◌∷◌, [], ◌+◌, Option, ap, refl, subst, sym}
use Rattle.std.specs.Prelude.{slice_get}
use Rattle.std.specs.List.{cons_option}
use Rattle.zone_lookup.specs.Descent.{descend}
use Rattle.zone_lookup.specs.Records.{answer_records}
use Rattle.zone_lookup.specs.Sections.{ends, no_data}
use Rattle.reply_records.specs.Groups.{sets_in, sets_in_zone}
use Rattle.record_set.specs.declared.sets.RecordSet.{RecordSet}
use Rattle.reply_records.specs.Holding.{IsHolding}
use Rattle.reply_records.specs.Selecting.{HoldsFirst, selected_of, selected_sets}
use Rattle.reply_records.specs.SelectedRecord.{Selected}
use Rattle.query_engine.specs.Asking.{asked_of, choices_of}
use Rattle.query_engine.proofs.Stepping.{asked_nothing, asked_some, zone_gives}
use Rattle.query_engine.proofs.steps.answer_group.Goals as goal

pub returns-then-first_answers-clause-ends : goal.returns-then-first_answers-clause-ends
returns-then-first_answers-clause-ends g c = λ healthy agrees.
    let zones = c.args.zones.now.zones in
    let test = g.V.HealthView.test c.args.view.now in
    let asked = c.args.asked.now in
    let used = c.args.progress.now.used in
    let lookup = asked_of zones c.args.zones.now.collections.list healthy c.args.tables.now asked in
    let before = choices_of c.args.progress.now in
    let first = c.first_answers.ensures.first c.if-first_answers.true in
    let set = first.0 in
    let alone = c.first_answers.ensures.alone c.if-first_answers.true test lookup.means.client
    asked.words.now before.count used in
    let gives = zone_gives zones test lookup.means.client asked.words.now c.args.group asked.zone
    before (selected_of c.args.group (0 ∷ [])) (before.count + 1) used alone c.requires.zone healthy
    agrees in
    let d = descend lookup.means (sets_in_zone zones asked.zone) (sets_in zones c.args.group)
    before in
    let one : selected_sets zones (selected_of c.args.group (0 ∷ [])) ≡ set ∷ [] =
    ap (λ (o : Option RecordSet). cons_option o []) first.1 in record {
      sections = record (ends used) { answers = answer_records c.args.name.now (set ∷ []) };
      ends = asked_some lookup c.args.name.now d used gives.uses (set ∷ []) set refl
          (sym one ∙ gives.sets);
      leaves = c.answer_first.ensures.ends set used first.2;
    }

pub returns-in-Nothing-clause-ends : goal.returns-in-Nothing-clause-ends
returns-in-Nothing-clause-ends g c = λ healthy agrees.
    let zones = c.args.zones.now.zones in
    let test = g.V.HealthView.test c.args.view.now in
    let asked = c.args.asked.now in
    let used = c.descend_named-selected.new.used in
    let lookup = asked_of zones c.args.zones.now.collections.list healthy c.args.tables.now asked in
    let gives = zone_gives zones test lookup.means.client asked.words.now c.args.group asked.zone
    (choices_of c.args.progress.now) c.descend_named-selected.result
    c.descend_named-selected.new.choices used
    c.descend_named-selected.ensures.gives c.requires.zone healthy agrees in
    let d = descend lookup.means (sets_in_zone zones asked.zone) (sets_in zones c.args.group)
    (choices_of c.args.progress.now) in record {
      sections = no_data lookup.zone used;
      ends = asked_nothing lookup c.args.name.now d used gives.uses
          (sym (ap (selected_sets zones) c.in-Nothing.is) ∙ gives.sets);
      leaves = c.answer_nodata.ensures.ends used;
    }

pub returns-in-Sets-clause-ends : goal.returns-in-Sets-clause-ends
returns-in-Sets-clause-ends g c = λ healthy agrees.
    let zones = c.args.zones.now.zones in
    let test = g.V.HealthView.test c.args.view.now in
    let asked = c.args.asked.now in
    let used = c.descend_named-selected.new.used in
    let lookup = asked_of zones c.args.zones.now.collections.list healthy c.args.tables.now asked in
    let gives = zone_gives zones test lookup.means.client asked.words.now c.args.group asked.zone
    (choices_of c.args.progress.now) c.descend_named-selected.result
    c.descend_named-selected.new.choices used
    c.descend_named-selected.ensures.gives c.requires.zone healthy agrees in
    let d = descend lookup.means (sets_in_zone zones asked.zone) (sets_in zones c.args.group)
    (choices_of c.args.progress.now) in
    let sets = selected_sets zones c.descend_named-selected.result in
    let held = subst (λ (s : Selected). HoldsFirst zones s c.descend_named-selected.new.scratch)
    c.in-Sets.is c.descend_named-selected.ensures.held in record {
      sections = record (ends used) { answers = answer_records c.args.name.now sets };
      ends = asked_some lookup c.args.name.now d used gives.uses sets held.0
          (ap (λ (s : Selected). slice_get (selected_sets zones s) 0) c.in-Sets.is ∙ held.2)
          gives.sets;
      leaves = c.answer_chosen.ensures.ends used;
    }

pub answer_first-requires-clause-held : goal.answer_first-requires-clause-held
answer_first-requires-clause-held g c =
    subst IsHolding (sym (c.first_answers.ensures.first c.if-first_answers.true).2) tt
