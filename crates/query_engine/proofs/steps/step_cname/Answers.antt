use Rattle.std.proofs.Common.{◌∙◌, ap, refl, ℕ}
use Rattle.zone_lookup.specs.Descent.{descend}
use Rattle.zone_lookup.specs.Sections.{no_data}
use Rattle.reply_records.specs.Groups.{by_key, sets_in, sets_in_zone}
use Rattle.reply_records.specs.Selecting.{selected_sets}
use Rattle.rdata_layout.specs.declared.types.RType.TheVariants as rtype
use Rattle.query_engine.specs.Asking.{asked_of, choices_of}
use Rattle.query_engine.proofs.Stepping.{a_cname, chosen_type, first_typed}
use Rattle.query_engine.proofs.Stepping.{no_cname, zone_gives}
use Rattle.query_engine.proofs.steps.step_cname.Goals as goal

pub returns-in-Some-clause-held : goal.returns-in-Some-clause-held
returns-in-Some-clause-held g c =
    let zones = c.args.zones.now.zones in
    let test = g.V.HealthView.test c.args.view.now in
    let starts = c.in-Some.ensures in
    let typed = chosen_type c.types_have_their_own_number.ensures zones test _ _ c.args.group _
    c.descend_seen-selected.result _ _ c.descend_seen-selected.ensures.gives (by_key zones test)
    (c.views_agree.ensures zones test c.well_formed-2.ensures) rtype.Cname c.requires.typed
    starts.set starts.among in (
      starts.set,
      starts.is_held,
      record { typed = typed; rdata = starts.rdata; first = starts.first },
    )

pub returns-in-None-clause-comes : goal.returns-in-None-clause-comes
returns-in-None-clause-comes g c = λ healthy agrees.
    let zones = c.args.zones.now.zones in
    let test = g.V.HealthView.test c.args.view.now in
    let asked = c.args.asked.now in
    let lookup = asked_of zones c.args.zones.now.collections.list healthy c.args.tables.now asked in
    let gives = zone_gives zones test lookup.means.client asked.words.now c.args.group asked.zone
    (choices_of c.args.progress.now) c.descend_seen-selected.result
    c.descend_seen-selected.new.choices c.descend_seen-selected.new.used
    c.descend_seen-selected.ensures.gives c.requires.zone healthy agrees in
    let d = descend lookup.means (sets_in_zone zones asked.zone) (sets_in zones c.args.group)
    (choices_of c.args.progress.now) in record {
      sections = no_data lookup.zone c.descend_seen-selected.new.used;
      ends = no_cname lookup c.args.name.now d c.descend_seen-selected.new.used gives.uses
          (selected_sets zones c.descend_seen-selected.result) gives.sets
          (c.in-None.ensures c.args.name.now);
      leaves = c.answer_nodata.ensures.ends c.descend_seen-selected.new.used;
    }

pub returns-in-Some-clause-comes : goal.returns-in-Some-clause-comes
returns-in-Some-clause-comes g c = λ healthy agrees.
    let zones = c.args.zones.now.zones in
    let test = g.V.HealthView.test c.args.view.now in
    let asked = c.args.asked.now in
    let name = c.args.name.now in
    let starts = c.in-Some.ensures in
    let lookup = asked_of zones c.args.zones.now.collections.list healthy c.args.tables.now asked in
    let gives = zone_gives zones test lookup.means.client asked.words.now c.args.group asked.zone
    (choices_of c.args.progress.now) c.descend_seen-selected.result
    c.descend_seen-selected.new.choices c.descend_seen-selected.new.used
    c.descend_seen-selected.ensures.gives c.requires.zone healthy agrees in
    let d = descend lookup.means (sets_in_zone zones asked.zone) (sets_in zones c.args.group)
    (choices_of c.args.progress.now) in
    let typed = chosen_type c.types_have_their_own_number.ensures zones test _ _ c.args.group _
    c.descend_seen-selected.result _ _ c.descend_seen-selected.ensures.gives healthy agrees rtype.Cname
    c.requires.typed starts.set starts.among in (
      record {
        set = starts.set;
        is_held = starts.is_held;
        typed = typed;
        rdata = starts.rdata;
        first = starts.first;
        follows = a_cname lookup name d (selected_sets zones c.descend_seen-selected.result) _
            (starts.starts name).0 _ gives.sets
            ((starts.starts name).1 ∙ first_typed name starts.set.rtype c.in-Some.ttl starts.rdata
            (starts.starts name).0 typed)
            (ap (λ (n : ℕ). record { count = n; used = c.descend_seen-selected.new.used }) gives.count
            ∙ ap (λ u. record { count = d.choices.count; used = u }) gives.uses);
      },
      refl,
    )
