use Rattle.std.proofs.Common.{◌∷◌, [], ◌++◌, ap, append_assoc, sym}
use Rattle.json_text.proofs.pieces.put_hex.Goals as goal

pub returns-clause-text : goal.returns-clause-text
returns-clause-text c =
    rw c.put-2.ensures.text (rw c.put_digits.ensures.text (rw c.put.ensures.text (
    simp append_assoc (ap (λ t. c.args.into.now.items ++ 34 ∷ (t ++ 34 ∷ []))
    (sym c.put_digits.ensures.bare)))))
