use Rattle.dns_message.specs.declared.query.QueryRead.TheVariants as read
use Rattle.r53_cli.proofs.once.Once.answer.Goals as goal

pub returns-in-Query-clause-answered : goal.returns-in-Query-clause-answered
returns-in-Query-clause-answered c = record {
  read = read.Query c.in-Query.query;
  judged = c.in-Query.ensures.judges;
  replied = c.reply_to.ensures.replied;
}
