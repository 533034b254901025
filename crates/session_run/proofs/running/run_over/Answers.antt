use Rattle.std.proofs.Common.{◌∙◌, ap, subst, sym}
use Rattle.session_loop.specs.Holding.{Holds}
use Rattle.session_loop.specs.Standing.{Server, StandsFor}
use Rattle.session_loop.specs.Stores.{StandsFor as StoreStandsFor}
use Rattle.zone_journal.specs.Pairs.{BothRead}
use Rattle.session_run.proofs.running.run_over.Goals as goal

pub returns-in-Ok-clause-leaves : goal.returns-in-Ok-clause-leaves
returns-in-Ok-clause-leaves g c = λ around start left held before same stands files.
    let is = sym c.in-Ok.ensures in
    c.go_on-how.ensures.leaves around start left held before (same ∙ ap (λ (s : Server). s.tables) is)
    (subst (λ (s : Server). StandsFor start s (g.L.Link.coming c.args.link.now)
    (g.R.Rng.stream c.args.words.now)) is stands)
    (subst (λ (s : Server). BothRead g.D.Disk.reading c.args.a.now c.args.b.now
    (Holds s.store.kept)) is files)

pub returns-in-Ok-clause-files : goal.returns-in-Ok-clause-files
returns-in-Ok-clause-files g c = λ engine stands files.
    let is = sym c.in-Ok.ensures in
    c.go_on-how.ensures.files engine
    (subst (λ (s : Server). StoreStandsFor engine s.store) is stands)
    (subst (λ (s : Server). BothRead g.D.Disk.reading c.args.a.now c.args.b.now
    (Holds s.store.kept)) is files)
