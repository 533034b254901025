use Rattle.std.proofs.Common.{inr, subst, sym}
use Rattle.config_opening.specs.Holding.{Holds}
use Rattle.config_opening.specs.States.{State as Kept}
use Rattle.zone_journal.specs.Pairs.{BothRead}
use Rattle.r53_core.proofs.store.Store.open.Goals as goal

pub returns-in-Ok-clause-holds : goal.returns-in-Ok-clause-holds
returns-in-Ok-clause-holds g c = λ x y a_reads b_reads.
    subst (λ (kept : Kept). BothRead g.D.Disk.reading c.open.new.a c.open.new.b (Holds kept))
    (sym c.in-Ok.ensures.kept) (c.in_ok-kept.ensures.holds x y a_reads b_reads)

pub returns-in-Err-clause-syncs : goal.returns-in-Err-clause-syncs
returns-in-Err-clause-syncs g c = λ x y a_reads b_reads.
    inr (c.in_ok-kept.ensures.syncs x y a_reads b_reads)
