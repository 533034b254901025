use Rattle.std.proofs.Common.{◌<◌, ◌∙◌, ap, arith, length, subst, sym, List, Option, ℕ}
use Rattle.zone_lookup.specs.Descent.{descend}
use Rattle.zone_lookup.specs.Sections.{asked as answered, asked_group, referral, step_below}
use Rattle.zone_lookup.specs.Sections.{step_from}
use Rattle.reply_records.proofs.Targets.{as_many}
use Rattle.reply_records.specs.Groups.{sets_in, sets_in_zone}
use Rattle.rdata_layout.specs.declared.types.RType.TheVariants as rtype
use Rattle.record_set.specs.declared.sets.RecordSet.{RecordSet}
use Rattle.zone_model.specs.Zones.{group}
use Rattle.query_engine.specs.Asking.{EndsAs, asked_of, choices_of}
use Rattle.query_engine.proofs.Named.{asked_named}
use Rattle.query_engine.proofs.Stepping.{asked_exists, first_set, typed_step}
use Rattle.query_engine.proofs.steps.step_typed.Goals as goal

pub returns-in-Some-clause-comes : goal.returns-in-Some-clause-comes
returns-in-Some-clause-comes g c = λ healthy agrees.
    let zones = c.args.zones.now.zones in
    let asked = c.args.asked.now in
    let used = c.args.progress.now.used in
    let lookup = asked_of zones c.args.zones.now.collections.list healthy c.args.tables.now asked in
    let cut = c.in-Some.ensures in
    let first = first_set zones c.in-Some.cut cut.group cut.some in record {
      sections = referral lookup.zone.sets first.0 used;
      ends = ap (λ (o : Option RecordSet). step_below lookup c.args.name.now o
          (choices_of c.args.progress.now)) (cut.cut ∙ first.1);
      leaves = subst (λ (z : ℕ). EndsAs (referral (sets_in_zone zones z) first.0 used)
          c.args.reply.now c.answer_referral.new.reply c.answer_referral.result used) cut.in_zone
          (c.answer_referral.ensures.ends first.0 used first.1);
    }

pub returns-in-None-clause-comes : goal.returns-in-None-clause-comes
returns-in-None-clause-comes g c = λ healthy agrees.
    let zones = c.args.zones.now.zones in
    let asked = c.args.asked.now in
    let name = c.args.name.now in
    let choices = choices_of c.args.progress.now in
    let lookup = asked_of zones c.args.zones.now.collections.list healthy c.args.tables.now asked in
    let has = c.requires.has in
    let many = as_many zones c.args.group has.group in
    let some = has.some in
    let cnames = group lookup.zone.sets name rtype.Cname in
    let filled = subst (λ (sets : List RecordSet). 0 < length sets) has.sets
    (omega (arith, many, some)) in
    let is = c.answer_group-end.ensures.ends healthy agrees in record {
      sections = is.sections;
      ends = ap (λ (o : Option RecordSet). step_below lookup name o choices) c.in-None.ensures
          ∙ (ap (λ (from : Option (List (List ℕ))). step_from lookup name from choices)
          (asked_exists c.names_exist.ensures.exist lookup.zone.sets name asked.qtype filled)
          ∙ (sym (typed_step lookup name (asked_group lookup.zone.sets name asked.qtype) cnames
          choices filled)
          ∙ (ap (λ (sets : List RecordSet). answered lookup name
          (descend lookup.means lookup.zone.sets sets choices)) (sym has.sets) ∙ is.ends)));
      leaves = is.leaves;
    }

pub answer_group-end-requires-clause-named : goal.answer_group-end-requires-clause-named
answer_group-end-requires-clause-named g c =
    asked_named (sets_in_zone c.args.zones.now.zones c.args.asked.now.zone)
    (sets_in c.args.zones.now.zones c.args.group) c.args.name.now c.args.asked.now.qtype
    c.requires.has.sets
