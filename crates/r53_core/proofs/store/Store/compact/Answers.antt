use Rattle.std.proofs.Common.{subst, sym}
use Rattle.config_opening.specs.Holding.{Holds}
use Rattle.r53_core.proofs.Compacting.{compaction}
use Rattle.r53_core.specs.Stores.{StandsFor, State}
use Rattle.zone_journal.specs.Pairs.{BothRead}
use Rattle.r53_core.proofs.store.Store.compact.Goals as goal

pub returns-clause-gives : goal.returns-clause-gives
returns-clause-gives g c = λ engine stands.
    compaction engine c.self.inside.kept c.compact.new.self c.self.inside.index
    (subst (λ (s : State). StandsFor engine s) (sym c.self.view_is) stands) c.args.pieces
    c.compact.result c.compact.ensures.gives

pub returns-clause-holds : goal.returns-clause-holds
returns-clause-holds g c = λ held.
    c.compact.ensures.holds
    (subst (λ (s : State). BothRead g.D.Disk.reading c.args.a.now c.args.b.now (Holds s.kept))
    (sym c.self.view_is) held)
