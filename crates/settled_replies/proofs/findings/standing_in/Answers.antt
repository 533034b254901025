use Rattle.std.proofs.Common.{◌<◌, List, arith, length, subst}
use Rattle.query_engine.proofs.Stepping.{asked_exists}
use Rattle.record_set.specs.declared.sets.RecordSet.{RecordSet}
use Rattle.reply_records.proofs.Targets.{as_many}
use Rattle.reply_records.specs.Groups.{sets_in_zone}
use Rattle.settled_replies.proofs.findings.standing_in.Goals as goal

pub returns-in-None : goal.returns-in-None
returns-in-None c =
    let zones = c.args.zones.now.zones in
    let has = c.in-Sets.ensures in
    let many = as_many zones c.in-Sets.field-0 has.group in
    let some = has.some in (
      c.in-None.ensures,
      asked_exists c.names_exist.ensures.exist (sets_in_zone zones c.args.zone) c.args.query.now.name
          c.args.query.now.qtype (subst (λ (sets : List RecordSet). 0 < length sets) has.sets (omega (arith, many, some))),
    )
