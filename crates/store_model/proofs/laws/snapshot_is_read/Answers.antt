use Rattle.store_model.proofs.Readings.{snapshot_is}
use Rattle.store_model.proofs.laws.snapshot_is_read.Goals as goal

pub returns : goal.returns
returns c = λ place generation file octets entries read.
    snapshot_is file place generation octets entries read
