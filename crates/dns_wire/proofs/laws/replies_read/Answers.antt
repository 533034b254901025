use Rattle.dns_wire.proofs.Reading.{cut_replies_read, whole_replies_read}
use Rattle.dns_wire.proofs.laws.replies_read.Goals as goal

pub returns : goal.returns
returns c = record { whole = whole_replies_read; cut = cut_replies_read }
