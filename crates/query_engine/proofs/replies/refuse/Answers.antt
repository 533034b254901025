use Rattle.std.proofs.Common.{◌∙◌, ap, Option, ℕ}
use Rattle.dns_message.specs.declared.query.Edns.{Edns}
use Rattle.dns_wire.specs.Draft.{opt_of, reply_to}
use Rattle.dns_wire.specs.Message.{octets_within}
use Rattle.query_engine.proofs.replies.refuse.Goals as goal

pub returns-clause-bytes : goal.returns-clause-bytes
returns-clause-bytes c =
    let query = c.args.query.now in
    c.finish.ensures.bytes (reply_to query) c.begin.ensures.stands
    ∙ (ap (λ (e : Option Edns). octets_within (record (reply_to query) {
      rcode = c.args.rcode;
      opt = opt_of e 0;
    }) c.limit_of.result) c.begin.ensures.edns
    ∙ ap (λ (n : ℕ). octets_within (record (reply_to query) { rcode = c.args.rcode }) n)
    c.limit_of.ensures.limit)
