use Rattle.std.proofs.Common.{inl, inr, length}
use Rattle.r53_disk.proofs.Moments.{started, goes_on, settled_within}
use Rattle.r53_disk.specs.Disk.{written}
use Rattle.r53_disk.specs.Synced.{OldOrTorn}
use Rattle.r53_disk.proofs.Writes.{keeps}
use Rattle.r53_disk.proofs.synced.write_synced.Goals as goal

pub returns-in-Whole-clause-kept : goal.returns-in-Whole-clause-kept
returns-in-Whole-clause-kept g c =
    λ bytes told. keeps c.sync.result bytes c.args.at c.args.from.now _ _ _ _
    (c.in-Whole.ensures.reading bytes told) c.sync.ensures.reading c.sync.ensures.images

pub returns-in-Whole-clause-any_moment : goal.returns-in-Whole-clause-any_moment
returns-in-Whole-clause-any_moment g c =
    λ bytes told.
    let D = g.D.Disk in
    let now = written bytes c.args.at c.args.from.now in
    let torn = c.in-Whole.ensures.images bytes told in
    let reads = c.in-Whole.ensures.reading bytes told in
    let at_start =
    started D.moment D.images_since c.args.disk.now
    (OldOrTorn c.args.at (length c.args.from.now) (D.images c.args.disk.now))
    (λ f left. inl (g.met.D.Disk.only_now c.args.disk.now f left)) in
    let wrote =
    goes_on D.moment D.images_since D.images _ _ c.write_at.new.self _ at_start
    c.write_at.ensures.time (λ f left. inr ((torn f).0 left)) in
    goes_on D.moment D.images_since D.images _ _ _ _ wrote c.sync.ensures.time
    (λ f left.
    inr ((torn f).0
    (settled_within c.sync.result now _ _ (c.sync.ensures.images now reads)
    (g.met.D.Disk.is_image c.write_at.new.self now reads) f left)))
