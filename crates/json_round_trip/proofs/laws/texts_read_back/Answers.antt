use Rattle.json_round_trip.proofs.Back.{told_reads_back}
use Rattle.json_round_trip.proofs.laws.texts_read_back.Goals as goal

pub returns : goal.returns
returns c = told_reads_back
