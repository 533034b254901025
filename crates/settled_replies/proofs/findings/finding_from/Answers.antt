use Rattle.std.proofs.Common.{◌∷◌, [], ◌∙◌, ◌<◌, ℕ, List, length, refl, subst, sym, arith}
use Rattle.dns_message.specs.Whole.{subnet_of}
use Rattle.query_engine.specs.Asking.{served_by}
use Rattle.query_engine.specs.Groups.{sets_in}
use Rattle.query_engine.specs.Served.{zone_of}
use Rattle.record_set.specs.declared.sets.RecordSet.{RecordSet}
use Rattle.reply_records.specs.Groups.{sets_in_zone}
use Rattle.zone_lookup.specs.Descent.{unused}
use Rattle.zone_lookup.specs.Records.{answer_records}
use Rattle.zone_lookup.specs.Reply.{client_of, lookup_of}
use Rattle.zone_lookup.specs.Sections.{ends, no_data}
use Rattle.rdata_layout.specs.declared.types.RType.TheVariants as rtype
use Rattle.reply_records.proofs.Targets.{as_many}
use Rattle.zone_lookup.specs.Sections.{asked_group}
use Rattle.zone_model.specs.Zones.{group as group_of_type}
use Rattle.settled_replies.proofs.Answering.{alone, empty, no_scope}
use Rattle.settled_replies.proofs.Descending.{ends_with_one}
use Rattle.settled_replies.proofs.Lasting.{first_of}
use Rattle.settled_replies.proofs.Cases.{by_one, cnames_lead, fail, hold, no_sets, none_found, of_one}
use Rattle.settled_replies.specs.Settling.{EndsWithOne}
use Rattle.settled_replies.specs.Alone.{ComesTo}
use Rattle.settled_replies.proofs.findings.finding_from.Goals as goal

pub returns-in-Some-scope_of_one-clause-sections : goal.returns-in-Some-scope_of_one-clause-sections
returns-in-Some-scope_of_one-clause-sections g c =
    let zones = c.args.zones.now.zones in
    let zone = zone_of zones c.args.zone c.args.apex.now in
    let query = c.args.query.now in
    let group = c.in-Some.group in
    let has = c.in-Some.ensures in
    let front = c.scope_of_one.ensures.front in
    let first = first_of (sets_in zones group) front.0 front.1 in
    let its = c.in-Some-scope_of_one.ensures.comes in (
      record (ends unused) { answers = answer_records query.name (its.0 ∷ []) },
      (its.0, its.1, refl),
      λ healthy agrees peer words.
          let served = served_by zones c.args.zones.now.collections.list healthy c.args.tables.now in
          let client = client_of served peer query in
          let one = its.2 healthy agrees peer in (
            one.0,
            alone (lookup_of served words query client zone) query.name c.requires.uncut c.args.from.now c.requires.taken
                front.0 first.0 its.0 one.0 (sym has.sets ∙ first.1)
                (subst (λ (l : List RecordSet). ComesTo (healthy c.args.zone) client (sets_in_zone zones c.args.zone) l
                its.0 one.0) first.1
                (subst (λ (id : ℕ). ComesTo (healthy id) client (sets_in_zone zones id) (sets_in zones group) its.0 one.0)
                has.in_zone one.1.0)),
            one.1.1,
          ),
    )

pub returns-in-None-group_of-clause-sections : goal.returns-in-None-group_of-clause-sections
returns-in-None-group_of-clause-sections g c =
    let zones = c.args.zones.now.zones in
    let zone = zone_of zones c.args.zone c.args.apex.now in
    let query = c.args.query.now in (
      no_data zone unused,
      refl,
      λ healthy agrees peer words.
          let served = served_by zones c.args.zones.now.collections.list healthy c.args.tables.now in
          let client = client_of served peer query in (
            unused,
            empty (lookup_of served words query client zone) query.name c.requires.uncut c.args.from.now c.requires.taken
                c.in-None.ensures c.in-None-group_of.ensures,
            no_scope (subnet_of query.edns) client,
          ),
    )

pub returns-in-Some-scope_of_one-clause-exact : goal.returns-in-Some-scope_of_one-clause-exact
returns-in-Some-scope_of_one-clause-exact g c = λ healthy agrees.
    let zones = c.args.zones.now.zones in
    let zone = zone_of zones c.args.zone c.args.apex.now in
    let query = c.args.query.now in
    let served = served_by zones c.args.zones.now.collections.list healthy c.args.tables.now in
    let group = c.in-Some.group in
    let has = c.in-Some.ensures in
    let front = c.scope_of_one.ensures.front in
    let first = first_of (sets_in zones group) front.0 front.1 in
    let its = c.in-Some-scope_of_one.ensures.comes in
    let sure = c.in-Some-scope_of_one.ensures.sure front.0 front.1 in
    hold refl (by_one served query zone front.0 first.0 (asked_group zone.sets c.args.from.now query.qtype)
    (group_of_type zone.sets c.args.from.now rtype.Cname) (sym has.sets ∙ first.1) (
      sure,
      λ asker.
          let one = its.2 healthy agrees asker.peer in
          let client = client_of served asker.peer query in
          ends_with_one (healthy c.args.zone) client zone.sets (front.0 ∷ first.0) its.0 one.0
          (subst (λ (l : List RecordSet). ComesTo (healthy c.args.zone) client zone.sets l its.0 one.0) first.1
          (subst (λ (id : ℕ). ComesTo (healthy id) client (sets_in_zone zones id) (sets_in zones group) its.0 one.0)
          has.in_zone one.1.0)) asker.words,
    ))

pub returns-in-None-scope_of_one-clause-exact : goal.returns-in-None-scope_of_one-clause-exact
returns-in-None-scope_of_one-clause-exact g c = λ healthy agrees.
    let zones = c.args.zones.now.zones in
    let zone = zone_of zones c.args.zone c.args.apex.now in
    let query = c.args.query.now in
    let served = served_by zones c.args.zones.now.collections.list healthy c.args.tables.now in
    let group = c.in-Some.group in
    let has = c.in-Some.ensures in
    let front = c.scope_of_one.ensures.front in
    let first = first_of (sets_in zones group) front.0 front.1 in
    fail none_found (λ can.
    let sure = of_one served query zone front.0 first.0 (asked_group zone.sets c.args.from.now query.qtype)
    (group_of_type zone.sets c.args.from.now rtype.Cname) (sym has.sets ∙ first.1) can in
    c.scope_of_one.ensures.none c.in-None-scope_of_one.is front.0 front.1 sure.0 healthy agrees (λ peer words.
    subst (λ (id : ℕ). EndsWithOne (record {
      healthy = healthy id;
      client = client_of served peer query;
      words = words;
    }) (sets_in_zone zones id) (sets_in zones group)) (sym has.in_zone)
    (subst (λ (l : List RecordSet). EndsWithOne (record {
      healthy = healthy c.args.zone;
      client = client_of served peer query;
      words = words;
    }) zone.sets l) (sym first.1) (sure.1 (record { peer = peer; words = words })))))

pub returns-in-Some-group_of-clause-exact : goal.returns-in-Some-group_of-clause-exact
returns-in-Some-group_of-clause-exact g c = λ healthy agrees.
    let zones = c.args.zones.now.zones in
    let zone = zone_of zones c.args.zone c.args.apex.now in
    let query = c.args.query.now in
    let served = served_by zones c.args.zones.now.collections.list healthy c.args.tables.now in
    let has = c.in-Some-group_of.ensures in
    let many = as_many zones c.in-Some-group_of.field-0 has.group in
    let some = has.some in
    fail none_found (cnames_lead served query zone (asked_group zone.sets c.args.from.now query.qtype)
    (group_of_type zone.sets c.args.from.now rtype.Cname) c.in-None.ensures
    (subst (λ (sets : List RecordSet). 0 < length sets) has.sets (omega (arith, many, some))))

pub returns-in-None-group_of-clause-exact : goal.returns-in-None-group_of-clause-exact
returns-in-None-group_of-clause-exact g c = λ healthy agrees.
    let zones = c.args.zones.now.zones in
    let zone = zone_of zones c.args.zone c.args.apex.now in
    let query = c.args.query.now in
    let served = served_by zones c.args.zones.now.collections.list healthy c.args.tables.now in
    hold refl (no_sets served query zone (asked_group zone.sets c.args.from.now query.qtype)
    (group_of_type zone.sets c.args.from.now rtype.Cname) c.in-None.ensures c.in-None-group_of.ensures)
