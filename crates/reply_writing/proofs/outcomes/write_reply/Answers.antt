use Rattle.std.proofs.Common.{◌≡◌, List, ℕ, ◌++◌, ap, sym, ◌∙◌}
use Rattle.reply_words.specs.Outcomes.{reply_of}
use Rattle.reply_words.specs.OutcomeRecord.{Outcome}
use Rattle.reply_writing.proofs.outcomes.write_reply.Goals as goal
use Rattle.serde_json.specs.Written.{compact_text}

-- what was written of an outcome is written of what it is
of_it : (before after : List ℕ) (outcome is : Outcome) → outcome ≡ is
    → after ≡ before ++ compact_text (reply_of is)
    → after ≡ before ++ compact_text (reply_of outcome)
of_it before after outcome is same text =
    text ∙ ap (λ o. before ++ compact_text (reply_of o)) (sym same)

pub returns-in-BadChecker-clause-text : goal.returns-in-BadChecker-clause-text
unfolding reply_of
returns-in-BadChecker-clause-text c = of_it _ _ _ _ c.in-BadChecker.is c.write_error-in-BadChecker.ensures.text

pub returns-in-NotBound-clause-text : goal.returns-in-NotBound-clause-text
unfolding reply_of
returns-in-NotBound-clause-text c = of_it _ _ _ _ c.in-NotBound.is c.write_error-in-NotBound.ensures.text

pub returns-in-AlreadyBound-clause-text : goal.returns-in-AlreadyBound-clause-text
unfolding reply_of
returns-in-AlreadyBound-clause-text c = of_it _ _ _ _ c.in-AlreadyBound.is c.write_error-in-AlreadyBound.ensures.text

pub returns-in-GenerationsEnded-clause-text : goal.returns-in-GenerationsEnded-clause-text
unfolding reply_of
returns-in-GenerationsEnded-clause-text c = of_it _ _ _ _ c.in-GenerationsEnded.is c.write_error-in-GenerationsEnded.ensures.text
