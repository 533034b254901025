use Rattle.std.proofs.Common.{◌≡◌, Some, ap, subst, sym}
use Rattle.dns_message.specs.Verdict.{read_as}
use Rattle.dns_message.specs.declared.verdict.Verdict.{Verdict}
use Rattle.zone_lookup.specs.Reply.{reply_to_read}
use Rattle.query_engine.specs.Asking.{answer_of, asker_of, served_by}
use Rattle.query_engine.proofs.replies.answer_read.Goals as goal

pub returns-in-Query-clause-answered : goal.returns-in-Query-clause-answered
returns-in-Query-clause-answered g c = λ healthy agrees.
    subst (λ (verdict : Verdict). answer_of (Some c.answer_query-length.result)
    c.answer_query-length.new.reply
    ≡ reply_to_read (served_by c.args.zones.now.zones c.args.zones.now.collections.list healthy
    c.args.tables.now) (asker_of c.args.peer c.args.words.now)
    (read_as verdict c.args.query.now)) (sym c.in-Query.is)
    (ap Some (c.answer_query-length.ensures.bytes healthy agrees))
