use Rattle.std.proofs.Common.{sym, subst}
use Rattle.zone_journal.specs.Pairs.{active_of, other_of}
use Rattle.zone_journal.specs.Standing.{StandsOn}
use Rattle.zone_journal.proofs.Pieces.{begun_stands}
use Rattle.zone_journal.proofs.laws.begins_in_place.Goals as goal

pub returns : goal.returns
returns g c = λ old new snapshot a b stands none short begins.
    subst (λ v. StandsOn g.D.Disk.reading g.D.Disk.images v a b) (sym begins.1)
    (begun_stands g.D.Disk.reading g.D.Disk.images old snapshot (active_of old.side a b)
    (other_of old.side a b) stands none short begins.0)
