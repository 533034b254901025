use Rattle.considered_sets.proofs.Flags.{listed, in_order}
use Rattle.considered_sets.proofs.laws.places_are_considered.Goals as goal

pub returns : goal.returns
returns c = record { listed = listed; in_order = in_order }
