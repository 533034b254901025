use Rattle.std.proofs.Common.{◌∙◌, ap, subst, sym, List, Option, ℕ}
use Rattle.zone_lookup.specs.Sections.{NameOutcome, nxdomain, referral, step_below, step_from}
use Rattle.reply_records.specs.Groups.{sets_in_zone}
use Rattle.record_set.specs.declared.sets.RecordSet.{RecordSet}
use Rattle.query_engine.specs.Asking.{ComesTo, EndsAs, asked_of, choices_of}
use Rattle.query_engine.proofs.Stepping.{first_set}
use Rattle.query_engine.proofs.steps.step_standing.Goals as goal

pub returns-in-Below-clause-comes : goal.returns-in-Below-clause-comes
returns-in-Below-clause-comes g c = λ healthy agrees.
    let zones = c.args.zones.now.zones in
    let asked = c.args.asked.now in
    let used = c.args.progress.now.used in
    let lookup = asked_of zones c.args.zones.now.collections.list healthy c.args.tables.now asked in
    let cut = c.in-Below.ensures in
    let first = first_set zones c.in-Below.cut cut.group cut.some in record {
      sections = referral lookup.zone.sets first.0 used;
      ends = ap (λ (o : Option RecordSet). step_below lookup c.args.name.now o
          (choices_of c.args.progress.now)) (cut.cut ∙ first.1);
      leaves = subst (λ (z : ℕ). EndsAs (referral (sets_in_zone zones z) first.0 used)
          c.args.reply.now c.answer_referral.new.reply c.answer_referral.result used) cut.in_zone
          (c.answer_referral.ensures.ends first.0 used first.1);
    }

pub returns-in-Absent-clause-comes : goal.returns-in-Absent-clause-comes
returns-in-Absent-clause-comes g c = λ healthy agrees.
    let zones = c.args.zones.now.zones in
    let asked = c.args.asked.now in
    let name = c.args.name.now in
    let choices = choices_of c.args.progress.now in
    let lookup = asked_of zones c.args.zones.now.collections.list healthy c.args.tables.now asked in
    record {
      sections = nxdomain lookup.zone c.args.progress.now.used;
      ends = ap (λ (o : Option RecordSet). step_below lookup name o choices) c.in-Absent.ensures.0
          ∙ ap (λ (from : Option (List (List ℕ))). step_from lookup name from choices)
          c.in-Absent.ensures.1;
      leaves = c.answer_nxdomain.ensures.ends c.args.progress.now.used;
    }

pub returns-in-Taken-clause-comes : goal.returns-in-Taken-clause-comes
returns-in-Taken-clause-comes g c = λ healthy agrees.
    let zones = c.args.zones.now.zones in
    let asked = c.args.asked.now in
    let name = c.args.name.now in
    let choices = choices_of c.args.progress.now in
    let lookup = asked_of zones c.args.zones.now.collections.list healthy c.args.tables.now asked in
    subst (λ (s : NameOutcome). ComesTo s name c.args.reply.now c.step_taken.new.reply
    c.step_taken.new.scratch c.step_taken.new.progress c.step_taken.result)
    (sym (ap (λ (o : Option RecordSet). step_below lookup name o choices) c.in-Taken.ensures.0
    ∙ ap (λ (from : Option (List (List ℕ))). step_from lookup name from choices)
    c.in-Taken.ensures.1)) (c.step_taken.ensures.comes healthy agrees)
