-- A packet has one reply.
use Rattle.std.proofs.Common.{◌≡◌, ℕ, None, List, refl, sym, ap, ◌∙◌, arith}
use Rattle.dns_wire.specs.Judge.{Judges}
use Rattle.dns_wire.specs.LawsOfDnsMessage.{OneJudgement}
use Rattle.dns_wire.specs.QueryReadRecord.{QueryRead}
use Rattle.dns_wire.specs.QueryReadRecord.TheVariants as read
use Rattle.answer_model.specs.Laws.{NoReply, OneReply}
use Rattle.answer_model.specs.Reply.{Asker, Served, reply_to_read}

pub one_reply : OneJudgement → OneReply
one_reply one served asker packet answer other first second =
    first.answered
    ∙ ap (reply_to_read served asker)
    (one packet first.judged second.judged first.judges second.judges)
    ∙ sym second.answered

not_heard : (served : Served) (asker : Asker) (packet : List ℕ) (judged : QueryRead)
    → Judges packet judged → None ≡ reply_to_read served asker judged → Judges packet read.Silent
not_heard served asker packet read.Silent judges e = judges
not_heard served asker packet (read.Bad id opcode rd rcode) judges e = absurd (grind (arith, e))
not_heard served asker packet (read.BadVersion query) judges e = absurd (grind (arith, e))
not_heard served asker packet (read.Query query) judges e = absurd (grind (arith, e))

pub no_reply : NoReply
no_reply = record {
  silent = λ served asker packet answers.
      not_heard served asker packet answers.judged answers.judges answers.answered;
  unheard = λ served asker packet judges.
      record { judged = read.Silent; judges = judges; answered = refl };
}
