use Rattle.config_edits.proofs.Hosting.{told}
use Rattle.config_edits.proofs.laws.edits_are_told.Goals as goal

pub returns : goal.returns
returns c = told
