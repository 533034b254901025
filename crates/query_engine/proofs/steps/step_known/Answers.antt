use Rattle.std.proofs.Common.{◌∙◌, ap, subst, sym, List, Option, ℕ}
use Rattle.zone_lookup.specs.Sections.{NameOutcome, referral, step_below, step_from}
use Rattle.reply_records.specs.Groups.{sets_in_zone}
use Rattle.record_set.specs.declared.sets.RecordSet.{RecordSet}
use Rattle.query_engine.specs.Asking.{ComesTo, EndsAs, asked_of, choices_of}
use Rattle.query_engine.proofs.Stepping.{first_set, known_source}
use Rattle.query_engine.proofs.steps.step_known.Goals as goal

pub returns-in-Some-clause-comes : goal.returns-in-Some-clause-comes
returns-in-Some-clause-comes g c = λ healthy agrees.
    let zones = c.args.zones.now.zones in
    let asked = c.args.asked.now in
    let used = c.args.progress.now.used in
    let lookup = asked_of zones c.args.zones.now.collections.list healthy c.args.tables.now asked in
    let cut = c.in-Some.ensures in
    let first = first_set zones c.in-Some.cut cut.group cut.some in record {
      sections = referral lookup.zone.sets first.0 used;
      ends = ap (λ (o : Option RecordSet). step_below lookup c.args.name.now o
          (choices_of c.args.progress.now)) (cut.cut ∙ first.1);
      leaves = subst (λ (z : ℕ). EndsAs (referral (sets_in_zone zones z) first.0 used)
          c.args.reply.now c.answer_referral.new.reply c.answer_referral.result used) cut.in_zone
          (c.answer_referral.ensures.ends first.0 used first.1);
    }

pub returns-in-None-clause-comes : goal.returns-in-None-clause-comes
returns-in-None-clause-comes g c = λ healthy agrees.
    let zones = c.args.zones.now.zones in
    let asked = c.args.asked.now in
    let name = c.args.name.now in
    let choices = choices_of c.args.progress.now in
    let lookup = asked_of zones c.args.zones.now.collections.list healthy c.args.tables.now asked in
    subst (λ (s : NameOutcome). ComesTo s name c.args.reply.now c.step_untyped.new.reply
    c.step_untyped.new.scratch c.step_untyped.new.progress c.step_untyped.result)
    (sym (ap (λ (o : Option RecordSet). step_below lookup name o choices) c.in-None.ensures
    ∙ ap (λ (from : Option (List (List ℕ))). step_from lookup name from choices)
    (known_source c.names_exist.ensures.exist lookup.zone.sets name c.requires.exists)))
    (c.step_untyped.ensures.comes healthy agrees)
