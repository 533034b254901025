use Rattle.dns_wire.proofs.Lists.{none, one_more, more, follows}
use Rattle.dns_wire.proofs.laws.records_add_up.Goals as goal

pub returns : goal.returns
returns c = record { none = none; one_more = one_more; more = more; follows = follows }
