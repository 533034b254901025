use Rattle.std.proofs.Common.{◌∙◌, sym}
use Rattle.query_engine.specs.Asking.{served_by}
use Rattle.query_engine.specs.Served.{zone_of}
use Rattle.settled_replies.proofs.Answering.{from_zone}
use Rattle.settled_replies.proofs.Lasting.{if_some}
use Rattle.settled_replies.proofs.Cases.{fail, in_none, in_zone, none_found, refused}
use Rattle.settled_replies.specs.Findings.{reply_with}
use Rattle.settled_replies.proofs.settling.settle_query.Goals as goal

pub returns-in-Some-clause-settled : goal.returns-in-Some-clause-settled
returns-in-Some-clause-settled g c =
    let zones = c.args.zones.now.zones in
    let query = c.args.query.now in
    if_some c.settle_in.result (λ its. (
      reply_with query its.0 its.1,
      λ healthy agrees. from_zone (served_by zones c.args.zones.now.collections.list healthy c.args.tables.now) query
          (zone_of zones c.in-Some.found.0 c.in-Some.found.1.now) its.0 its.1
          (sym c.is_refused.ensures ∙ c.if-is_refused.false) c.in-Some.ensures.zone (its.2 healthy agrees),
      its.3,
    )) c.settle_in.ensures.settled

pub returns-then-is_refused-clause-exact : goal.returns-then-is_refused-clause-exact
returns-then-is_refused-clause-exact g c = λ healthy agrees.
    let served = served_by c.args.zones.now.zones c.args.zones.now.collections.list healthy c.args.tables.now in
    fail none_found (refused served c.args.query.now (sym c.is_refused.ensures ∙ c.if-is_refused.true))

pub returns-in-None-clause-exact : goal.returns-in-None-clause-exact
returns-in-None-clause-exact g c = λ healthy agrees.
    let served = served_by c.args.zones.now.zones c.args.zones.now.collections.list healthy c.args.tables.now in
    fail none_found (in_none served c.args.query.now c.in-None.ensures)

pub returns-in-Some-clause-exact : goal.returns-in-Some-clause-exact
returns-in-Some-clause-exact g c = λ healthy agrees.
    let zones = c.args.zones.now.zones in
    let served = served_by zones c.args.zones.now.collections.list healthy c.args.tables.now in
    in_zone served c.args.query.now (zone_of zones c.in-Some.found.0 c.in-Some.found.1.now)
    (sym c.is_refused.ensures ∙ c.if-is_refused.false) c.in-Some.ensures.zone (c.settle_in.ensures.exact healthy agrees)
