use Rattle.std.proofs.Common.{◌∙◌, refl}
use Rattle.dns_wire.specs.Draft.{reply_to}
use Rattle.dns_wire.specs.Limit.{limit_of}
use Rattle.query_engine.proofs.Finishing.{finished}
use Rattle.query_engine.specs.Adding.{with_sections}
use Rattle.query_engine.specs.Served.{zone_of}
use Rattle.settled_replies.proofs.Answering.{has_aa, has_rcode}
use Rattle.settled_replies.specs.Findings.{scope_with}
use Rattle.settled_replies.proofs.settling.settle_in.Goals as goal

pub finish-requires-clause-begun : goal.finish-requires-clause-begun
finish-requires-clause-begun g c =
    let its = c.in-Some.ensures.sections in
    let writes = c.write_finding.ensures its.0 its.1 in
    (_, writes.stands (reply_to c.args.query.now) c.begin.ensures.stands (refl, refl))

pub returns-clause-settled : goal.returns-clause-settled
returns-clause-settled g c =
    let zones = c.args.zones.now.zones in
    let query = c.args.query.now in
    let its = c.in-Some.ensures.sections in
    let writes = c.write_finding.ensures its.0 its.1 in
    let finding = c.in-Some.finding in
    let zone = zone_of zones c.args.zone c.args.apex.now in (
      its.0,
      scope_with finding,
      its.2,
      c.finish.ensures.bytes (with_sections its.0 (reply_to query))
          (writes.stands (reply_to query) c.begin.ensures.stands (refl, refl))
          ∙ finished query its.0 c.aa.result c.rcode.result c.write_finding.new.reply.edns c.scope.result
          (scope_with finding) c.limit_of-limit.result (limit_of query.edns)
          (c.aa.ensures ∙ has_aa zones zone query.name c.finding_in.new.scratch finding its.0 its.1)
          (c.rcode.ensures.is ∙ has_rcode zones zone query.name c.finding_in.new.scratch finding its.0 its.1)
          (writes.edns ∙ c.begin.ensures.edns) c.scope.ensures c.limit_of-limit.ensures.limit,
    )
