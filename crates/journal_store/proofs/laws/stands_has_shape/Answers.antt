use Rattle.journal_store.proofs.Keeping.{shape}
use Rattle.journal_store.proofs.laws.stands_has_shape.Goals as goal

pub returns : goal.returns
returns g c =
    λ v a b x y stands tx ty. shape g.D.Disk.reading g.D.Disk.images v a b x y stands tx ty
