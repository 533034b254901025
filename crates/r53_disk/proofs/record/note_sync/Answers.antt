use Rattle.std.proofs.Common.{◌∙◌, ap}
use Rattle.r53_disk.specs.Calls.{traces_of}
use Rattle.r53_disk.proofs.Kept.{steps_of-push}
use Rattle.r53_disk.proofs.record.note_sync.Goals as goal

pub returns-clause-kept : goal.returns-clause-kept
returns-clause-kept c = ap traces_of c.in_ok-push.ensures.items ∙ steps_of-push _ _
