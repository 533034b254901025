use Rattle.journal_store.proofs.Keeping.{shape, shape_is_store}
use Rattle.journal_store.proofs.laws.stands_is_store.Goals as goal

pub returns : goal.returns
returns g c = λ v a b x y stands tx ty.
    shape_is_store g.D.Disk.images v a b
    (shape g.D.Disk.reading g.D.Disk.images v a b x y stands tx ty)
