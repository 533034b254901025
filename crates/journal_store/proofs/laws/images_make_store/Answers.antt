use Rattle.journal_store.proofs.Keeping.{again}
use Rattle.journal_store.proofs.laws.images_make_store.Goals as goal

pub returns : goal.returns
returns c = again
