use Rattle.std.proofs.Common.{◌≡◌, ◌∙◌, ◌++◌, ◌∷◌, [], ap, rules}
use Rattle.r53_disk.specs.Calls.{traces_of}
use Rattle.r53_disk.specs.Memory.{Wrote}
use Rattle.r53_disk.specs.declared.record.Call.TheVariants as call
use Rattle.r53_disk.proofs.Kept.{steps_of-push}
use Rattle.r53_disk.proofs.record.note_write.Goals as goal

pub returns-clause-kept : goal.returns-clause-kept
returns-clause-kept c =
    let same : c.in_ok-piece.piece.items ≡ c.args.from.now = search rules in
    let pushed : c.push_reserved.new.self.items ≡ c.args.calls.now.items
    ++ call.Write c.args.at c.in_ok-piece.piece ∷ [] = search rules in
    ap traces_of pushed ∙ steps_of-push _ _
    ∙ ap (λ l. traces_of c.args.calls.now.items ++ Wrote c.args.at l ∷ []) same
