use Rattle.std.proofs.Common.{arith, length, ltb-true}
use Rattle.policy_select.proofs.Pieces.{text_fits}
use Rattle.policy_select.proofs.parts.has_text.Goals as goal

pub returns-in-len1-up : goal.returns-in-len1-up
returns-in-len1-up c = λ text rest n same is.
    let size = c.from.ensures in
    let long = ltb-true c.from.result (length c.args.octets.now) is in
    text_fits c.args.octets.now text rest n same (omega (arith, long, size))
