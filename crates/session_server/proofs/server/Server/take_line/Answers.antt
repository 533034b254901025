use Rattle.std.proofs.Common.{◌∙◌, subst, sym, Result, inl, refl}
use Rattle.line_bounds.specs.LineRecord.{Line}
use Rattle.line_server.specs.Holding.{Holds}
use Rattle.line_server.specs.Leaving.{ImagesOpen}
use Rattle.line_server.specs.Standing.{Server, StandsFor}
use Rattle.line_faults.specs.declared.fault.LineFault.{LineFault}
use Rattle.list_sending.specs.Asking.{Asks}
use Rattle.session_server.proofs.Lines.{none_torn, none_unsent, not_memory, of_asked, of_fault, same_fault}
use Rattle.session_server.specs.Taking.{PartOfOctets}
use Rattle.zone_journal.specs.Pairs.{BothRead}
use Rattle.line_server.specs.Stores.{StandsFor as StoreStandsFor}
use Rattle.session_server.proofs.server.Server.take_line.Goals as goal

pub returns-in-Ok-clause-leaves : goal.returns-in-Ok-clause-leaves
returns-in-Ok-clause-leaves g c = λ around old held before same stands ports tells was.
    of_asked around c.args.octets.now c.in-Ok.asked
    (subst (λ (r : Result Line LineFault). Asks c.args.octets.now r) c.in-Ok.is
    (c.ask.ensures.asks (λ e. not_memory c.in-Ok.asked (sym c.in-Ok.is ∙ e))))
    c.take_asked.result (g.L.Link.coming c.take_asked.new.link)
    (BothRead g.D.Disk.reading c.args.a.now c.args.b.now (Holds c.args.self.now.store.kept))
    (ImagesOpen g.D.Disk.images c.take_asked.new.a c.take_asked.new.b old.engine.config)
    old (λ new. StandsFor new c.take_asked.new.self (g.L.Link.coming c.take_asked.new.link) (g.R.Rng.stream c.take_asked.new.words)) held before (g.K.Sink.held c.take_asked.new.out) (g.L.Link.sent c.take_asked.new.link)
    (c.take_asked.ensures.leaves around old held before same stands ports tells was)

pub returns-in-Err-clause-leaves : goal.returns-in-Err-clause-leaves
returns-in-Err-clause-leaves g c = λ around old held before same stands ports tells was.
    of_fault around c.args.octets.now c.in-Err.fault
    (λ some. subst (λ (r : Result Line LineFault). Asks c.args.octets.now r) c.in-Err.is
    (c.ask.ensures.asks (λ e. some (same_fault c.in-Err.fault (sym c.in-Err.is ∙ e)))))
    c.tell_fault.result
    (PartOfOctets around c.args.octets.now old before (g.L.Link.coming c.args.link.now)
    (g.L.Link.sent c.args.link.now))
    (BothRead g.D.Disk.reading c.args.a.now c.args.b.now (Holds c.args.self.now.store.kept))
    (ImagesOpen g.D.Disk.images c.args.a.now c.args.b.now old.engine.config) old
    c.tell_fault.new.self (g.L.Link.coming c.args.link.now) (g.R.Rng.stream c.args.words.now)
    (subst (λ (s : Server). StandsFor old s (g.L.Link.coming c.args.link.now)
    (g.R.Rng.stream c.args.words.now)) (sym c.tell_fault.ensures.same) stands) held before
    (g.K.Sink.held c.tell_fault.new.out) (g.L.Link.sent c.args.link.now) was
    (c.tell_fault.ensures.writes held tells)

pub returns-in-Ok-clause-disk_asked : goal.returns-in-Ok-clause-disk_asked
returns-in-Ok-clause-disk_asked g c = λ is engine stands. (
  c.in-Ok.asked,
  subst (λ (r : Result Line LineFault). Asks c.args.octets.now r) c.in-Ok.is
      (c.ask.ensures.asks (λ e. not_memory c.in-Ok.asked (sym c.in-Ok.is ∙ e))),
  c.take_asked.ensures.disk_asked is engine stands,
)

pub returns-in-Ok-clause-link_asked : goal.returns-in-Ok-clause-link_asked
returns-in-Ok-clause-link_asked g c = λ is. (
  c.in-Ok.asked,
  subst (λ (r : Result Line LineFault). Asks c.args.octets.now r) c.in-Ok.is
      (c.ask.ensures.asks (λ e. not_memory c.in-Ok.asked (sym c.in-Ok.is ∙ e))),
  c.take_asked.ensures.link_asked is,
)

pub returns-in-Err-clause-disk_asked : goal.returns-in-Err-clause-disk_asked
returns-in-Err-clause-disk_asked g c = λ is engine stands.
    absurd (none_torn c.tell_fault.result 0 0 (g.K.Sink.faults c.args.out.now)
    (g.K.Sink.faults c.tell_fault.new.out) c.tell_fault.ensures.cause is)

pub returns-in-Err-clause-link_asked : goal.returns-in-Err-clause-link_asked
returns-in-Err-clause-link_asked g c = λ is.
    absurd (none_unsent c.tell_fault.result 0 0 0 0 (g.K.Sink.faults c.args.out.now)
    (g.K.Sink.faults c.tell_fault.new.out) c.tell_fault.ensures.cause is)

pub returns-in-Err-clause-made : goal.returns-in-Err-clause-made
returns-in-Err-clause-made g c = λ engine stands. (
  engine,
  inl refl,
  subst (λ (s : Server). StoreStandsFor engine s.store) (sym c.tell_fault.ensures.same) stands,
)

pub returns-in-Err-clause-torn : goal.returns-in-Err-clause-torn
returns-in-Err-clause-torn g c = λ is engine stands held.
    absurd (none_torn c.tell_fault.result 0 0 (g.K.Sink.faults c.args.out.now)
    (g.K.Sink.faults c.tell_fault.new.out) c.tell_fault.ensures.cause is)
