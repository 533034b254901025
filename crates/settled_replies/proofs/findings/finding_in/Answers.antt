use Rattle.std.proofs.Common.{◌∙◌, refl}
use Rattle.dns_message.specs.Whole.{subnet_of}
use Rattle.query_engine.proofs.Stepping.{first_set}
use Rattle.query_engine.specs.Asking.{served_by}
use Rattle.query_engine.specs.Served.{zone_of}
use Rattle.zone_lookup.specs.Descent.{unused}
use Rattle.zone_lookup.specs.Reply.{client_of, lookup_of}
use Rattle.zone_lookup.specs.Sections.{cut_above, nxdomain, referral}
use Rattle.settled_replies.proofs.Answering.{absent, below, no_scope}
use Rattle.settled_replies.proofs.Cases.{absent_name, at_cut, hold, taken}
use Rattle.settled_replies.proofs.findings.finding_in.Goals as goal

pub returns-in-Below-clause-sections : goal.returns-in-Below-clause-sections
returns-in-Below-clause-sections g c =
    let zones = c.args.zones.now.zones in
    let zone = zone_of zones c.args.zone c.args.apex.now in
    let query = c.args.query.now in
    let cut = c.in-Below.ensures in
    let first = first_set zones c.in-Below.cut cut.group cut.some in (
      referral zone.sets first.0 unused,
      (first.0, first.1, refl),
      λ healthy agrees peer words.
          let served = served_by zones c.args.zones.now.collections.list healthy c.args.tables.now in
          let client = client_of served peer query in (
            unused,
            below (lookup_of served words query client zone) query.name first.0 (cut.cut ∙ first.1),
            no_scope (subnet_of query.edns) client,
          ),
    )

pub returns-in-Absent-clause-sections : goal.returns-in-Absent-clause-sections
returns-in-Absent-clause-sections g c =
    let zones = c.args.zones.now.zones in
    let zone = zone_of zones c.args.zone c.args.apex.now in
    let query = c.args.query.now in (
      nxdomain zone unused,
      refl,
      λ healthy agrees peer words.
          let served = served_by zones c.args.zones.now.collections.list healthy c.args.tables.now in
          let client = client_of served peer query in (
            unused,
            absent (lookup_of served words query client zone) query.name c.in-Absent.ensures.0 c.in-Absent.ensures.1,
            no_scope (subnet_of query.edns) client,
          ),
    )

pub returns-in-Below-clause-exact : goal.returns-in-Below-clause-exact
returns-in-Below-clause-exact g c = λ healthy agrees.
    let zones = c.args.zones.now.zones in
    let zone = zone_of zones c.args.zone c.args.apex.now in
    let query = c.args.query.now in
    let served = served_by zones c.args.zones.now.collections.list healthy c.args.tables.now in
    let cut = c.in-Below.ensures in
    let first = first_set zones c.in-Below.cut cut.group cut.some in
    hold refl (at_cut served query zone (cut_above zone query.name) first.0 (cut.cut ∙ first.1))

pub returns-in-Taken-clause-exact : goal.returns-in-Taken-clause-exact
returns-in-Taken-clause-exact g c = λ healthy agrees.
    let zones = c.args.zones.now.zones in
    let zone = zone_of zones c.args.zone c.args.apex.now in
    let query = c.args.query.now in
    let served = served_by zones c.args.zones.now.collections.list healthy c.args.tables.now in
    let its = c.in-Taken.ensures in
    taken served query zone (cut_above zone query.name) c.in-Taken.from its.0 its.1
    (c.finding_from.ensures.exact healthy agrees)

pub returns-in-Absent-clause-exact : goal.returns-in-Absent-clause-exact
returns-in-Absent-clause-exact g c = λ healthy agrees.
    let zones = c.args.zones.now.zones in
    let zone = zone_of zones c.args.zone c.args.apex.now in
    let query = c.args.query.now in
    let served = served_by zones c.args.zones.now.collections.list healthy c.args.tables.now in
    hold refl (absent_name served query zone (cut_above zone query.name) c.in-Absent.ensures.0 c.in-Absent.ensures.1)
