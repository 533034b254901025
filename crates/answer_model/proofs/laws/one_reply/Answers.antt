use Rattle.answer_model.proofs.Replies.{no_reply, one_reply}
use Rattle.answer_model.proofs.laws.one_reply.Goals as goal

pub returns : goal.returns
returns c = record { one = one_reply c.one_judgement.ensures; none = no_reply }
