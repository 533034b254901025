use Rattle.std.proofs.Common.{ap, ◌∙◌, sym}
use Rattle.check_model.specs.Commands.{refusal_of}
use Rattle.health_check.proofs.judging.refusal_of.Goals as goal

pub returns-in-Delete : goal.returns-in-Delete
returns-in-Delete c =
    c.delete_refusal.ensures c.args.next
    ∙ ap (refusal_of (record { next = c.args.next; list = c.args.list.now })) (sym c.in-Delete.is)
