use Rattle.dns_wire.proofs.Once as once
use Rattle.dns_wire.proofs.laws.one_reading.Goals as goal

pub returns : goal.returns
returns c = once.one_reading c.one_record.ensures c.one_list_of_options.ensures
