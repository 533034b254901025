use Rattle.std.proofs.Common.{ap, length, arith}
use Rattle.file_building.proofs.Moments.{joined, weaker}
use Rattle.file_building.proofs.AppendLemmas.{reaches_after}
use Rattle.zone_journal.specs.Making.{IsNoneOrEmpty}
use Rattle.file_building.proofs.Gates.{all_shut, only_shut}
use Rattle.zone_journal.proofs.Stores.{closed_is, closed_shut, whole_or_shut, none, opening, makes}
use Rattle.zone_journal.proofs.empty.make_store.Goals as goal

pub returns-in_default-clause-any_moment : goal.returns-in_default-clause-any_moment
returns-in_default-clause-any_moment g c = λ bytes told.
    weaker g.D.Disk.moment g.D.Disk.images_since _ _ _ IsNoneOrEmpty
    (c.close_file.ensures.any_moment bytes told)
    (λ f left. whole_or_shut bytes f (c.requires.shut bytes told) left)

pub write_synced-requires : goal.write_synced-requires
write_synced-requires g c =
    reaches_after (g.D.Disk.reading c.args.disk.now) _ 1 c.close_file.ensures.untold
    (λ bytes told. (
      _,
      (c.in-Whole.ensures.closed bytes told).0,
      omega (arith, ap length (closed_is bytes)),
    ))

pub returns-in_default-write_synced-clause-made : goal.returns-in_default-write_synced-clause-made
returns-in_default-write_synced-clause-made g c =
    λ bytes told. c.in_default-write_synced.ensures.kept _ (c.in-Whole.ensures.closed bytes told).0

pub returns-in_default-write_synced-clause-any_moment :
    goal.returns-in_default-write_synced-clause-any_moment
returns-in_default-write_synced-clause-any_moment g c = λ bytes told.
    let closed = c.in-Whole.ensures.closed bytes told in
    joined g.D.Disk.moment g.D.Disk.images_since _ _ _ _ _ IsNoneOrEmpty
    (c.close_file.ensures.any_moment bytes told) (c.write_synced.ensures.any_moment _ closed.0)
    (λ f left. whole_or_shut bytes f (c.requires.shut bytes told) left)
    (λ f left.
    none f (all_shut 1 _ _ (omega arith) (only_shut _ _ closed.1 (closed_shut bytes)) f left))

pub returns-clause-made : goal.returns-clause-made
returns-clause-made g c =
    λ bytes told. makes c.write_synced-2.result bytes _ _
    (c.write_synced-2.ensures.kept _
    (c.in-Whole-write_synced.ensures.kept _ (c.in-Whole.ensures.closed bytes told).0).0)

pub returns-clause-any_moment : goal.returns-clause-any_moment
returns-clause-any_moment g c = λ bytes told.
    let closed = c.in-Whole.ensures.closed bytes told in
    let staged = c.in-Whole-write_synced.ensures.kept _ closed.0 in
    let first =
    joined g.D.Disk.moment g.D.Disk.images_since _ _ _ _ _ IsNoneOrEmpty
    (c.close_file.ensures.any_moment bytes told) (c.write_synced.ensures.any_moment _ closed.0)
    (λ f left. whole_or_shut bytes f (c.requires.shut bytes told) left)
    (λ f left.
    none f (all_shut 1 _ _ (omega arith) (only_shut _ _ closed.1 (closed_shut bytes)) f left))
    in
    joined g.D.Disk.moment g.D.Disk.images_since _ _ _ IsNoneOrEmpty _ IsNoneOrEmpty first
    (c.write_synced-2.ensures.any_moment _ staged.0)
    (λ f left. left)
    (λ f left. opening bytes _ staged.1 f left)
