use Rattle.std.proofs.Common.{arith}
use Rattle.ip_table.proofs.FirstBits.{common}
use Rattle.ip_table.proofs.bits.shared_before.Goals as goal

pub returns-clause-same : goal.returns-clause-same
returns-clause-same c = λ m few. let both = common 32 c.args.a c.args.b m (omega arith) (omega arith) few in
    (λ h. both.0 (omega arith), λ e. omega (arith, both.1 e))
