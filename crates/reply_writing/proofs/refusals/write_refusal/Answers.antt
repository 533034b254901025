use Rattle.std.proofs.Common.{◌≡◌, List, ℕ, ◌++◌, ap, sym, ◌∙◌}
use Rattle.reply_words.specs.RefusalRecord.{Refusal}
use Rattle.reply_words.specs.Errors.{refusal_error}
use Rattle.reply_writing.proofs.refusals.write_refusal.Goals as goal
use Rattle.serde_json.specs.Written.{compact_text}

-- what was written of a refusal is written of what it is
of_it : (before after : List ℕ) (why is : Refusal) → why ≡ is
    → after ≡ before ++ compact_text (refusal_error is)
    → after ≡ before ++ compact_text (refusal_error why)
of_it before after why is same text =
    text ∙ ap (λ w. before ++ compact_text (refusal_error w)) (sym same)

pub returns-in-TooManyValues-clause-text : goal.returns-in-TooManyValues-clause-text
returns-in-TooManyValues-clause-text c = of_it _ _ _ _ c.in-TooManyValues.is c.write_error-in-TooManyValues.ensures.text

pub returns-in-TooManyCharacters-clause-text : goal.returns-in-TooManyCharacters-clause-text
returns-in-TooManyCharacters-clause-text c = of_it _ _ _ _ c.in-TooManyCharacters.is c.write_error-in-TooManyCharacters.ensures.text

pub returns-in-AlreadyExists-clause-text : goal.returns-in-AlreadyExists-clause-text
returns-in-AlreadyExists-clause-text c = of_it _ _ _ _ c.in-AlreadyExists.is c.write_error_in_change-in-AlreadyExists.ensures.text

pub returns-in-ValuesDiffer-clause-text : goal.returns-in-ValuesDiffer-clause-text
returns-in-ValuesDiffer-clause-text c = of_it _ _ _ _ c.in-ValuesDiffer.is c.write_error_in_change-in-ValuesDiffer.ensures.text

pub returns-in-GroupFull-clause-text : goal.returns-in-GroupFull-clause-text
returns-in-GroupFull-clause-text c = of_it _ _ _ _ c.in-GroupFull.is c.write_error_of_group.ensures.text

pub returns-in-StoreFull-clause-text : goal.returns-in-StoreFull-clause-text
returns-in-StoreFull-clause-text c = of_it _ _ _ _ c.in-StoreFull.is c.write_error-in-StoreFull.ensures.text

pub returns-in-DiskFault-clause-text : goal.returns-in-DiskFault-clause-text
returns-in-DiskFault-clause-text c = of_it _ _ _ _ c.in-DiskFault.is c.write_error-in-DiskFault.ensures.text

pub returns-in-TooManyHealthChecks-clause-text : goal.returns-in-TooManyHealthChecks-clause-text
returns-in-TooManyHealthChecks-clause-text c = of_it _ _ _ _ c.in-TooManyHealthChecks.is c.write_error-in-TooManyHealthChecks.ensures.text

pub returns-in-TooManyHostedZones-clause-text : goal.returns-in-TooManyHostedZones-clause-text
returns-in-TooManyHostedZones-clause-text c = of_it _ _ _ _ c.in-TooManyHostedZones.is c.write_error-in-TooManyHostedZones.ensures.text

pub returns-in-TooManyCidrCollections-clause-text : goal.returns-in-TooManyCidrCollections-clause-text
returns-in-TooManyCidrCollections-clause-text c = of_it _ _ _ _ c.in-TooManyCidrCollections.is c.write_error-in-TooManyCidrCollections.ensures.text

pub returns-in-CidrBlockInUse-clause-text : goal.returns-in-CidrBlockInUse-clause-text
returns-in-CidrBlockInUse-clause-text c = of_it _ _ _ _ c.in-CidrBlockInUse.is c.write_error-in-CidrBlockInUse.ensures.text

pub returns-in-TooManyCidrBlocks-clause-text : goal.returns-in-TooManyCidrBlocks-clause-text
returns-in-TooManyCidrBlocks-clause-text c = of_it _ _ _ _ c.in-TooManyCidrBlocks.is c.write_error-in-TooManyCidrBlocks.ensures.text
