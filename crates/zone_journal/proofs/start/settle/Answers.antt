use Rattle.std.proofs.Common.{◌∙◌, sym, subst, ⊎_elim}
use Rattle.file_building.proofs.Moments.{settled_within}
use Rattle.file_building.specs.Disk.{Settles}
use Rattle.zone_journal.proofs.start.settle.Goals as goal

pub returns-clause-unwritten : goal.returns-clause-unwritten
returns-clause-unwritten g c = λ bytes told.
    let within =
    λ (f : _) (now : _). settled_within c.sync.result bytes _ _
    (c.sync.ensures.images bytes told) (g.met.D.Disk.is_image c.args.disk.now bytes told) f now
    in
    record {
      reads = c.sync.ensures.reading;
      leaves = within;
      later = c.sync.ensures.time.later;
      before = λ t f le left.
          ⊎_elim (λ was. was) (λ now. g.met.D.Disk.counts_now c.args.disk.now t f le (within f now))
          (c.sync.ensures.time.nothing_else t f le left);
    }

pub returns-clause-only : goal.returns-clause-only
returns-clause-only g c =
    λ whole bytes told.
    subst (λ r. Settles r bytes (g.D.Disk.images c.args.disk.now) (g.D.Disk.images c.sync.new.self))
    whole (c.sync.ensures.images bytes (sym c.sync.ensures.reading ∙ told))
