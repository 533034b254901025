use Rattle.std.proofs.Common.{rules}
use Rattle.rdata_layout.proofs.Fronts.{string_in_front}
use Rattle.rdata_layout.proofs.scan.string_len.Goals as goal

pub returns-clause-some : goal.returns-clause-some
returns-clause-some c =
    string_in_front c.args.octets.now (search rules) (search rules) (search rules)
