use Rattle.store_model.proofs.Kept as kept
use Rattle.store_model.proofs.keeping.images_make_store.Goals as goal

pub returns : goal.returns
returns c = kept.images_make_store
