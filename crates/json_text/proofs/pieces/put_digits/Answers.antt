use Rattle.std.proofs.Common.{arith}
use Rattle.json_text.proofs.Bare.{digits_are_bare}
use Rattle.json_text.proofs.pieces.put_digits.Goals as goal

pub returns-clause-bare : goal.returns-clause-bare
returns-clause-bare c = digits_are_bare c.args.octets.now (λ i. omega (arith, c.type_inv.octets i))
