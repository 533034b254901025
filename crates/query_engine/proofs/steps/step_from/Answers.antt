use Rattle.std.proofs.Common.{◌<◌, ◌∙◌, ap, arith, length, subst, sym, List}
use Rattle.zone_lookup.specs.Descent.{descend}
use Rattle.zone_lookup.specs.Sections.{asked as answered, asked_group}
use Rattle.reply_records.proofs.Targets.{as_many}
use Rattle.reply_records.specs.Groups.{sets_in, sets_in_zone}
use Rattle.rdata_layout.specs.declared.types.RType.TheVariants as rtype
use Rattle.record_set.specs.declared.sets.RecordSet.{RecordSet}
use Rattle.zone_model.specs.Zones.{group}
use Rattle.query_engine.specs.Asking.{asked_of, choices_of}
use Rattle.query_engine.proofs.Named.{asked_named}
use Rattle.query_engine.proofs.Stepping.{typed_step}
use Rattle.query_engine.proofs.steps.step_from.Goals as goal

pub returns-in-Some-clause-comes : goal.returns-in-Some-clause-comes
returns-in-Some-clause-comes g c = λ healthy agrees.
    let zones = c.args.zones.now.zones in
    let asked = c.args.asked.now in
    let choices = choices_of c.args.progress.now in
    let lookup = asked_of zones c.args.zones.now.collections.list healthy c.args.tables.now asked in
    let has = c.in-Some.ensures in
    let many = as_many zones c.in-Some.group has.group in
    let some = has.some in
    let cnames = group lookup.zone.sets c.args.from.now rtype.Cname in
    let is = c.answer_group-end.ensures.ends healthy agrees in record {
      sections = is.sections;
      ends = sym (typed_step lookup c.args.name.now
          (asked_group lookup.zone.sets c.args.from.now asked.qtype) cnames choices
          (subst (λ (sets : List RecordSet). 0 < length sets) has.sets
          (omega (arith, many, some))))
          ∙ (ap (λ (sets : List RecordSet). answered lookup c.args.name.now
          (descend lookup.means lookup.zone.sets sets choices)) (sym has.sets) ∙ is.ends);
      leaves = is.leaves;
    }

pub answer_group-end-requires-clause-named : goal.answer_group-end-requires-clause-named
answer_group-end-requires-clause-named g c =
    asked_named (sets_in_zone c.args.zones.now.zones c.args.asked.now.zone)
    (sets_in c.args.zones.now.zones c.in-Some.group) c.args.from.now c.args.asked.now.qtype
    c.in-Some.ensures.sets
