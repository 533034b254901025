use Rattle.dns_message.specs.Verdict.{read_as}
use Rattle.query_engine.proofs.replies.answer.Goals as goal

pub returns-clause-answers : goal.returns-clause-answers
returns-clause-answers g c = λ healthy agrees. record {
  judged = read_as c.read_over-verdict.result c.read_over-verdict.new.query;
  judges = c.read_over-verdict.ensures.judges;
  answered = c.answer_read.ensures.answered healthy agrees;
}
