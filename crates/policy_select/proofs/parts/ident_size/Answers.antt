use Rattle.policy_select.proofs.Pieces.{first_two}
use Rattle.policy_select.proofs.parts.ident_size.Goals as goal

pub returns-in-len2-up : goal.returns-in-len2-up
returns-in-len2-up c = λ all n e.
    first_two c.args.octets.now all n c.args.kind e c.in-len2-up.len_at_least c.if-first-kind.true
