use Rattle.store_model.proofs.Shapes as shapes
use Rattle.store_model.proofs.laws.one_shape.Goals as goal

pub returns : goal.returns
returns c = shapes.one_shape
