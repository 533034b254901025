use Rattle.address_text.proofs.Placing.{◌then◌}
use Rattle.address_text.proofs.writing.write_around.Goals as goal

pub returns-clause-wrote : goal.returns-clause-wrote
returns-clause-wrote c =
    c.write_groups-end.ensures.wrote then c.put-end.ensures then c.write_groups.ensures.wrote
