use Rattle.dns_message.proofs.Question.{no_name, same_size, too_short}
use Rattle.dns_message.proofs.read.question_at.Goals as goal

pub returns-in_default-clause-none : goal.returns-in_default-clause-none
returns-in_default-clause-none c = no_name _ _ c.behind-body.ensures c.in_default.ensures.none

pub returns-then-body-name_len-lt4-clause-none : goal.returns-then-body-name_len-lt4-clause-none
returns-then-body-name_len-lt4-clause-none c =
    too_short _ _ _ _ c.behind-body.ensures c.in-Some.ensures.only c.if-body-name_len-lt4.true

pub returns-clause-only : goal.returns-clause-only
returns-clause-only c = same_size _ _ _ _ c.behind-body.ensures c.in-Some.ensures.only
