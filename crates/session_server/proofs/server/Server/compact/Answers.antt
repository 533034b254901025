use Rattle.std.proofs.Common.{◌≡◌, None, subst, sym}
use Rattle.line_bounds.specs.LineRecord.TheVariants as line
use Rattle.line_server.specs.Holding.{Holds}
use Rattle.line_server.specs.Leaving.{ImagesOpen}
use Rattle.line_server.specs.Standing.{Server, StandsFor}
use Rattle.line_server.specs.Stores.{StandsFor as StoreStandsFor}
use Rattle.session_server.proofs.Arms.{compaction}
use Rattle.session_server.specs.Taking.{PartOf}
use Rattle.zone_journal.specs.Pairs.{BothRead}
use Rattle.session_server.proofs.Keeping.{compacts, compacts_or_none}
use Rattle.session_server.proofs.server.Server.compact.Goals as goal

pub returns-clause-leaves : goal.returns-clause-leaves
returns-clause-leaves g c = λ around old held before network random told stands tells unsent.
    let its = subst (λ (s : Server). StandsFor old s network random) (sym c.self.view_is) stands in
    compaction around old
    (record { store = c.self.inside.store; tables = c.self.inside.tables; bound = c.self.inside.bound })
    network random its c.compact.new.store held before (g.K.Sink.held c.compact.new.out) told unsent
    (PartOf around (line.Compact c.args.pieces) old before network told)
    (BothRead g.D.Disk.reading c.args.a.now c.args.b.now (Holds c.args.self.now.store.kept))
    (ImagesOpen g.D.Disk.images c.compact.new.a c.compact.new.b old.engine.config)
    c.args.pieces
    ((old.engine.journal.plan ≡ None) × ((c.compact.new.a ≡ c.args.a.now) × (c.compact.new.b ≡ c.args.b.now)))
    c.compact.result
    (λ is given. c.compact.ensures.torn is old.engine its.store
    (subst (λ (s : Server). BothRead g.D.Disk.reading c.args.a.now c.args.b.now (Holds s.store.kept))
    (sym c.self.view_is) given))
    (c.compact.ensures.leaves old.engine held its.store tells)

pub returns-clause-holds : goal.returns-clause-holds
returns-clause-holds g c = λ held. c.compact.ensures.holds
    (subst (λ (s : Server). BothRead g.D.Disk.reading c.args.a.now c.args.b.now (Holds s.store.kept))
    (sym c.self.view_is) held)

pub returns-clause-disk_asked : goal.returns-clause-disk_asked
returns-clause-disk_asked g c = λ is engine stands. c.compact.ensures.asked is engine
    (subst (λ (s : Server). StoreStandsFor engine s.store) (sym c.self.view_is) stands)

pub returns-clause-made : goal.returns-clause-made
returns-clause-made g c = λ engine stands.
    let its = c.compact.ensures.made engine
    (subst (λ (s : Server). StoreStandsFor engine s.store) (sym c.self.view_is) stands) in
    (its.0, compacts_or_none c.args.pieces engine its.0 its.1, its.2)

pub returns-clause-torn : goal.returns-clause-torn
returns-clause-torn g c = λ is engine stands held.
    let its = c.compact.ensures.torn is engine
    (subst (λ (s : Server). StoreStandsFor engine s.store) (sym c.self.view_is) stands)
    (subst (λ (s : Server). BothRead g.D.Disk.reading c.args.a.now c.args.b.now (Holds s.store.kept))
    (sym c.self.view_is) held) in
    (its.0.config, compacts c.args.pieces engine its.0 its.1 its.2, its.3)
