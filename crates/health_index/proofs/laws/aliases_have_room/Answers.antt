use Rattle.health_index.proofs.Laid.{aliases_have_room}
use Rattle.health_index.proofs.laws.aliases_have_room.Goals as goal

pub returns : goal.returns
returns c = aliases_have_room
