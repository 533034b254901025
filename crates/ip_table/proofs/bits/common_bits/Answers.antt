use Rattle.std.proofs.Common.{arith}
use Rattle.ip_table.proofs.FirstBits.{common}
use Rattle.ip_table.proofs.bits.common_bits.Goals as goal

pub returns-clause-same : goal.returns-clause-same
returns-clause-same c = λ n low. common 128 c.args.a c.args.b n (omega arith) (omega arith) low
