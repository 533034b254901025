use Rattle.std.proofs.Common.{◌≡◌, None, subst, sym}
use Rattle.line_bounds.specs.LineRecord.TheVariants as line
use Rattle.line_server.specs.Holding.{Holds}
use Rattle.line_server.specs.Leaving.{ImagesOpen}
use Rattle.line_server.specs.Standing.{Server, StandsFor}
use Rattle.line_server.specs.Stores.{StandsFor as StoreStandsFor}
use Rattle.session_server.proofs.Arms.{command}
use Rattle.session_server.specs.Taking.{PartOf}
use Rattle.zone_journal.specs.Pairs.{BothRead}
use Rattle.session_server.proofs.Keeping.{commanded, commanded_or_none}
use Rattle.session_server.proofs.server.Server.take_command.Goals as goal

pub returns-clause-leaves : goal.returns-clause-leaves
returns-clause-leaves g c = λ around old held before network random told stands tells unsent.
    let its = subst (λ (s : Server). StandsFor old s network random) (sym c.self.view_is) stands in
    command around old
    (record { store = c.self.inside.store; tables = c.self.inside.tables; bound = c.self.inside.bound })
    network random its c.control.new.store held before (g.K.Sink.held c.control.new.out) told unsent
    (PartOf around (line.Control c.args.command) old before network told)
    (BothRead g.D.Disk.reading c.args.a.now c.args.b.now (Holds c.args.self.now.store.kept))
    (ImagesOpen g.D.Disk.images c.control.new.a c.control.new.b old.engine.config)
    c.args.command
    ((c.control.new.a ≡ c.args.a.now) × (c.control.new.b ≡ c.args.b.now))
    c.control.result
    (λ is given. c.control.ensures.torn is old.engine its.store
    (subst (λ (s : Server). BothRead g.D.Disk.reading c.args.a.now c.args.b.now (Holds s.store.kept))
    (sym c.self.view_is) given))
    (c.control.ensures.leaves old.engine held its.store tells)

pub returns-clause-holds : goal.returns-clause-holds
returns-clause-holds g c = λ held. c.control.ensures.holds
    (subst (λ (s : Server). BothRead g.D.Disk.reading c.args.a.now c.args.b.now (Holds s.store.kept))
    (sym c.self.view_is) held)

pub returns-clause-disk_asked : goal.returns-clause-disk_asked
returns-clause-disk_asked g c = λ is engine stands. c.control.ensures.asked is engine
    (subst (λ (s : Server). StoreStandsFor engine s.store) (sym c.self.view_is) stands)

pub returns-clause-made : goal.returns-clause-made
returns-clause-made g c = λ engine stands.
    let its = c.control.ensures.made engine
    (subst (λ (s : Server). StoreStandsFor engine s.store) (sym c.self.view_is) stands) in
    (its.0, commanded_or_none c.args.command engine its.0 its.1, its.2)

pub returns-clause-torn : goal.returns-clause-torn
returns-clause-torn g c = λ is engine stands held.
    let its = c.control.ensures.torn is engine
    (subst (λ (s : Server). StoreStandsFor engine s.store) (sym c.self.view_is) stands)
    (subst (λ (s : Server). BothRead g.D.Disk.reading c.args.a.now c.args.b.now (Holds s.store.kept))
    (sym c.self.view_is) held) in
    (its.0.config, commanded c.args.command engine its.0 its.1 its.2, its.3)
