use Rattle.std.proofs.Common.{◌∙◌, ap, sym}
use Rattle.dns_wire.specs.Limit.{limit_of}
use Rattle.dns_wire.specs.Message.{Message, octets_within}
use Rattle.query_engine.specs.Asking.{asker_of, served_by}
use Rattle.query_engine.proofs.Finishing.{reply_from_zone}
use Rattle.query_engine.proofs.replies.answer_query.Goals as goal

pub returns-in-Some-clause-bytes : goal.returns-in-Some-clause-bytes
returns-in-Some-clause-bytes g c = λ healthy agrees.
    let zones = c.args.zones.now.zones in
    let query = c.args.query.now in
    let served = served_by zones c.args.zones.now.collections.list healthy c.args.tables.now in
    let asker = asker_of c.args.peer c.args.words.now in
    let found = c.in-Some.ensures in
    c.answer_in_zone.ensures.bytes healthy agrees
    ∙ ap (λ (m : Message). octets_within m (limit_of query.edns))
    (reply_from_zone served asker query zones c.in-Some.found.0 c.in-Some.found.1.now
    (sym c.is_refused.ensures ∙ c.if-is_refused.false) found.zone)
