use Rattle.std.proofs.Common.{◌≡◌, ◌∙◌, ◌++◌, ◌∷◌, [], ap, rules}
use Rattle.r53_disk.specs.Calls.{traces_of}
use Rattle.r53_disk.specs.Memory.{Tried}
use Rattle.r53_disk.proofs.Kept.{steps_of-push}
use Rattle.r53_disk.proofs.record.note_try.Goals as goal

pub returns-clause-kept : goal.returns-clause-kept
returns-clause-kept c =
    let same : c.in_ok-piece.piece.items ≡ c.args.from.now = search rules in
    ap traces_of c.in_ok-push.ensures.items ∙ steps_of-push _ _
    ∙ ap (λ l. traces_of c.args.calls.now.items ++ Tried c.args.at l ∷ []) same
