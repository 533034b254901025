use Rattle.set_reading.proofs.Answering.{check_read}
use Rattle.set_reading.proofs.Policies.{routing_read}
use Rattle.set_reading.proofs.laws.parts_are_read.Goals as goal

pub returns : goal.returns
returns c = record { routings = routing_read c.fields_are_read.ensures; checks = check_read }
