use Rattle.std.proofs.Common.{subst, sym}
use Rattle.line_bounds.specs.LineRecord.{Line}
use Rattle.line_bounds.specs.LineRecord.TheVariants as line
use Rattle.line_server.specs.Holding.{Holds}
use Rattle.line_server.specs.Leaving.{ImagesOpen}
use Rattle.line_server.specs.Standing.{StandsFor}
use Rattle.list_sending.specs.Steps.{LineSteps}
use Rattle.session_server.proofs.Lines.{no_disk, no_fault, none_torn, none_unsent}
use Rattle.session_server.specs.Taking.{AsksDisk, AsksLink, LineLeaves, PartOf}
use Rattle.zone_journal.specs.Pairs.{BothRead}
use Rattle.session_server.proofs.server.Server.take_asked.Goals as goal

pub returns-in-Control-clause-leaves : goal.returns-in-Control-clause-leaves
returns-in-Control-clause-leaves g c = λ around old held before same stands ports tells was.
    subst (λ (l : Line). LineLeaves c.take_command.result (LineSteps around l old)
    (PartOf around l old before (g.L.Link.coming c.args.link.now) (g.L.Link.sent c.args.link.now))
    (BothRead g.D.Disk.reading c.args.a.now c.args.b.now (Holds c.args.self.now.store.kept))
    (ImagesOpen g.D.Disk.images c.take_command.new.a c.take_command.new.b old.engine.config)
    old (λ new. StandsFor new c.take_command.new.self (g.L.Link.coming c.args.link.now) (g.R.Rng.stream c.args.words.now)) held before (g.K.Sink.held c.take_command.new.out) (g.L.Link.sent c.args.link.now)) (sym c.in-Control.is)
    (c.take_command.ensures.leaves around old held before (g.L.Link.coming c.args.link.now) (g.R.Rng.stream c.args.words.now) (g.L.Link.sent c.args.link.now) stands tells was)

pub returns-in-List-clause-leaves : goal.returns-in-List-clause-leaves
returns-in-List-clause-leaves g c = λ around old held before same stands ports tells was.
    subst (λ (l : Line). LineLeaves c.tell_list.result (LineSteps around l old)
    (PartOf around l old before (g.L.Link.coming c.args.link.now) (g.L.Link.sent c.args.link.now))
    (BothRead g.D.Disk.reading c.args.a.now c.args.b.now (Holds c.args.self.now.store.kept))
    (ImagesOpen g.D.Disk.images c.args.a.now c.args.b.now old.engine.config)
    old (λ new. StandsFor new c.tell_list.new.self (g.L.Link.coming c.args.link.now) (g.R.Rng.stream c.args.words.now)) held before (g.K.Sink.held c.tell_list.new.out) (g.L.Link.sent c.args.link.now)) (sym c.in-List.is)
    (no_fault (LineSteps around (line.List c.in-List.wanted) old) (PartOf around (line.List c.in-List.wanted) old before (g.L.Link.coming c.args.link.now) (g.L.Link.sent c.args.link.now)) (BothRead g.D.Disk.reading c.args.a.now c.args.b.now (Holds c.args.self.now.store.kept)) (ImagesOpen g.D.Disk.images c.args.a.now c.args.b.now old.engine.config) old (λ new. StandsFor new c.tell_list.new.self (g.L.Link.coming c.args.link.now) (g.R.Rng.stream c.args.words.now)) held before (g.K.Sink.held c.tell_list.new.out) (g.L.Link.sent c.args.link.now) c.tell_list.result (c.tell_list.ensures.leaves around old held before (g.L.Link.coming c.args.link.now) (g.R.Rng.stream c.args.words.now) (g.L.Link.sent c.args.link.now) same stands tells was))

pub returns-in-Status-clause-leaves : goal.returns-in-Status-clause-leaves
returns-in-Status-clause-leaves g c = λ around old held before same stands ports tells was.
    subst (λ (l : Line). LineLeaves c.tell_status.result (LineSteps around l old)
    (PartOf around l old before (g.L.Link.coming c.args.link.now) (g.L.Link.sent c.args.link.now))
    (BothRead g.D.Disk.reading c.args.a.now c.args.b.now (Holds c.args.self.now.store.kept))
    (ImagesOpen g.D.Disk.images c.args.a.now c.args.b.now old.engine.config)
    old (λ new. StandsFor new c.tell_status.new.self (g.L.Link.coming c.args.link.now) (g.R.Rng.stream c.args.words.now)) held before (g.K.Sink.held c.tell_status.new.out) (g.L.Link.sent c.args.link.now)) (sym c.in-Status.is)
    (no_fault (LineSteps around (line.Status c.in-Status.id) old) (PartOf around (line.Status c.in-Status.id) old before (g.L.Link.coming c.args.link.now) (g.L.Link.sent c.args.link.now)) (BothRead g.D.Disk.reading c.args.a.now c.args.b.now (Holds c.args.self.now.store.kept)) (ImagesOpen g.D.Disk.images c.args.a.now c.args.b.now old.engine.config) old (λ new. StandsFor new c.tell_status.new.self (g.L.Link.coming c.args.link.now) (g.R.Rng.stream c.args.words.now)) held before (g.K.Sink.held c.tell_status.new.out) (g.L.Link.sent c.args.link.now) c.tell_status.result (c.tell_status.ensures.leaves around old held before (g.L.Link.coming c.args.link.now) (g.R.Rng.stream c.args.words.now) (g.L.Link.sent c.args.link.now) same stands tells was))

pub returns-in-Observe-clause-leaves : goal.returns-in-Observe-clause-leaves
returns-in-Observe-clause-leaves g c = λ around old held before same stands ports tells was.
    subst (λ (l : Line). LineLeaves c.take_report.result (LineSteps around l old)
    (PartOf around l old before (g.L.Link.coming c.args.link.now) (g.L.Link.sent c.args.link.now))
    (BothRead g.D.Disk.reading c.args.a.now c.args.b.now (Holds c.args.self.now.store.kept))
    (ImagesOpen g.D.Disk.images c.args.a.now c.args.b.now old.engine.config)
    old (λ new. StandsFor new c.take_report.new.self (g.L.Link.coming c.args.link.now) (g.R.Rng.stream c.args.words.now)) held before (g.K.Sink.held c.take_report.new.out) (g.L.Link.sent c.args.link.now)) (sym c.in-Observe.is)
    (no_fault (LineSteps around (line.Observe c.in-Observe.seen) old) (PartOf around (line.Observe c.in-Observe.seen) old before (g.L.Link.coming c.args.link.now) (g.L.Link.sent c.args.link.now)) (BothRead g.D.Disk.reading c.args.a.now c.args.b.now (Holds c.args.self.now.store.kept)) (ImagesOpen g.D.Disk.images c.args.a.now c.args.b.now old.engine.config) old (λ new. StandsFor new c.take_report.new.self (g.L.Link.coming c.args.link.now) (g.R.Rng.stream c.args.words.now)) held before (g.K.Sink.held c.take_report.new.out) (g.L.Link.sent c.args.link.now) c.take_report.result (c.take_report.ensures.leaves around old held before (g.L.Link.coming c.args.link.now) (g.R.Rng.stream c.args.words.now) (g.L.Link.sent c.args.link.now) same stands tells was))

pub returns-in-Query-clause-leaves : goal.returns-in-Query-clause-leaves
returns-in-Query-clause-leaves g c = λ around old held before same stands ports tells was.
    subst (λ (l : Line). LineLeaves c.tell_answer.result (LineSteps around l old)
    (PartOf around l old before (g.L.Link.coming c.args.link.now) (g.L.Link.sent c.args.link.now))
    (BothRead g.D.Disk.reading c.args.a.now c.args.b.now (Holds c.args.self.now.store.kept))
    (ImagesOpen g.D.Disk.images c.args.a.now c.args.b.now old.engine.config)
    old (λ new. StandsFor new c.tell_answer.new.self (g.L.Link.coming c.args.link.now) (g.R.Rng.stream c.args.words.now)) held before (g.K.Sink.held c.tell_answer.new.out) (g.L.Link.sent c.args.link.now)) (sym c.in-Query.is)
    (no_fault (LineSteps around (line.Query c.in-Query.packet) old) (PartOf around (line.Query c.in-Query.packet) old before (g.L.Link.coming c.args.link.now) (g.L.Link.sent c.args.link.now)) (BothRead g.D.Disk.reading c.args.a.now c.args.b.now (Holds c.args.self.now.store.kept)) (ImagesOpen g.D.Disk.images c.args.a.now c.args.b.now old.engine.config) old (λ new. StandsFor new c.tell_answer.new.self (g.L.Link.coming c.args.link.now) (g.R.Rng.stream c.args.words.now)) held before (g.K.Sink.held c.tell_answer.new.out) (g.L.Link.sent c.args.link.now) c.tell_answer.result (c.tell_answer.ensures.leaves around old held before (g.L.Link.coming c.args.link.now) (g.R.Rng.stream c.args.words.now) (g.L.Link.sent c.args.link.now) same stands tells was))

pub returns-in-Bind-clause-leaves : goal.returns-in-Bind-clause-leaves
returns-in-Bind-clause-leaves g c = λ around old held before same stands ports tells was.
    subst (λ (l : Line). LineLeaves c.open_ports.result (LineSteps around l old)
    (PartOf around l old before (g.L.Link.coming c.open_ports.new.link) (g.L.Link.sent c.open_ports.new.link))
    (BothRead g.D.Disk.reading c.args.a.now c.args.b.now (Holds c.args.self.now.store.kept))
    (ImagesOpen g.D.Disk.images c.args.a.now c.args.b.now old.engine.config)
    old (λ new. StandsFor new c.open_ports.new.self (g.L.Link.coming c.open_ports.new.link) (g.R.Rng.stream c.args.words.now)) held before (g.K.Sink.held c.open_ports.new.out) (g.L.Link.sent c.open_ports.new.link)) (sym c.in-Bind.is)
    (no_disk (LineSteps around (line.Bind c.in-Bind.ports) old) (PartOf around (line.Bind c.in-Bind.ports) old before (g.L.Link.coming c.open_ports.new.link) (g.L.Link.sent c.open_ports.new.link)) (BothRead g.D.Disk.reading c.args.a.now c.args.b.now (Holds c.args.self.now.store.kept)) (ImagesOpen g.D.Disk.images c.args.a.now c.args.b.now old.engine.config) old (λ new. StandsFor new c.open_ports.new.self (g.L.Link.coming c.open_ports.new.link) (g.R.Rng.stream c.args.words.now)) held before (g.K.Sink.held c.open_ports.new.out) (g.L.Link.sent c.open_ports.new.link) c.open_ports.result (c.open_ports.ensures.leaves around old held before (g.R.Rng.stream c.args.words.now) stands ports tells was))

pub returns-in-Serve-clause-leaves : goal.returns-in-Serve-clause-leaves
returns-in-Serve-clause-leaves g c = λ around old held before same stands ports tells was.
    subst (λ (l : Line). LineLeaves c.take_turns.result (LineSteps around l old)
    (PartOf around l old before (g.L.Link.coming c.take_turns.new.link) (g.L.Link.sent c.take_turns.new.link))
    (BothRead g.D.Disk.reading c.args.a.now c.args.b.now (Holds c.args.self.now.store.kept))
    (ImagesOpen g.D.Disk.images c.args.a.now c.args.b.now old.engine.config)
    old (λ new. StandsFor new c.take_turns.new.self (g.L.Link.coming c.take_turns.new.link) (g.R.Rng.stream c.take_turns.new.words)) held before (g.K.Sink.held c.take_turns.new.out) (g.L.Link.sent c.take_turns.new.link)) (sym c.in-Serve.is)
    (no_disk (LineSteps around (line.Serve c.in-Serve.turns) old) (PartOf around (line.Serve c.in-Serve.turns) old before (g.L.Link.coming c.take_turns.new.link) (g.L.Link.sent c.take_turns.new.link)) (BothRead g.D.Disk.reading c.args.a.now c.args.b.now (Holds c.args.self.now.store.kept)) (ImagesOpen g.D.Disk.images c.args.a.now c.args.b.now old.engine.config) old (λ new. StandsFor new c.take_turns.new.self (g.L.Link.coming c.take_turns.new.link) (g.R.Rng.stream c.take_turns.new.words)) held before (g.K.Sink.held c.take_turns.new.out) (g.L.Link.sent c.take_turns.new.link) c.take_turns.result (c.take_turns.ensures.leaves around old held before same stands tells was))

pub returns-in-Compact-clause-leaves : goal.returns-in-Compact-clause-leaves
returns-in-Compact-clause-leaves g c = λ around old held before same stands ports tells was.
    subst (λ (l : Line). LineLeaves c.compact.result (LineSteps around l old)
    (PartOf around l old before (g.L.Link.coming c.args.link.now) (g.L.Link.sent c.args.link.now))
    (BothRead g.D.Disk.reading c.args.a.now c.args.b.now (Holds c.args.self.now.store.kept))
    (ImagesOpen g.D.Disk.images c.compact.new.a c.compact.new.b old.engine.config)
    old (λ new. StandsFor new c.compact.new.self (g.L.Link.coming c.args.link.now) (g.R.Rng.stream c.args.words.now)) held before (g.K.Sink.held c.compact.new.out) (g.L.Link.sent c.args.link.now)) (sym c.in-Compact.is)
    (c.compact.ensures.leaves around old held before (g.L.Link.coming c.args.link.now) (g.R.Rng.stream c.args.words.now) (g.L.Link.sent c.args.link.now) stands tells was)

pub returns-in-Bind-clause-undrawn : goal.returns-in-Bind-clause-undrawn
returns-in-Bind-clause-undrawn g c = λ is.
    absurd (none_torn c.open_ports.result (g.L.Link.faults c.args.link.now)
    (g.L.Link.faults c.open_ports.new.link) (g.K.Sink.faults c.args.out.now)
    (g.K.Sink.faults c.open_ports.new.out) c.open_ports.ensures.cause is)

pub returns-in-Serve-clause-undrawn : goal.returns-in-Serve-clause-undrawn
returns-in-Serve-clause-undrawn g c = λ is.
    absurd (none_torn c.take_turns.result (g.L.Link.faults c.args.link.now)
    (g.L.Link.faults c.take_turns.new.link) (g.K.Sink.faults c.args.out.now)
    (g.K.Sink.faults c.take_turns.new.out) c.take_turns.ensures.cause is)

pub returns-in-Control-clause-disk_asked : goal.returns-in-Control-clause-disk_asked
returns-in-Control-clause-disk_asked g c = λ is engine stands.
    subst (λ (l : Line). AsksDisk l engine) (sym c.in-Control.is)
    (c.take_command.ensures.disk_asked is engine stands)

pub returns-in-Control-clause-link_asked : goal.returns-in-Control-clause-link_asked
returns-in-Control-clause-link_asked g c = λ is.
    absurd (none_unsent c.take_command.result (g.D.Disk.faults c.args.a.now) (g.D.Disk.faults c.take_command.new.a)
    (g.D.Disk.faults c.args.b.now) (g.D.Disk.faults c.take_command.new.b) (g.K.Sink.faults c.args.out.now)
    (g.K.Sink.faults c.take_command.new.out) c.take_command.ensures.cause is)

pub returns-in-Compact-clause-disk_asked : goal.returns-in-Compact-clause-disk_asked
returns-in-Compact-clause-disk_asked g c = λ is engine stands.
    subst (λ (l : Line). AsksDisk l engine) (sym c.in-Compact.is)
    (c.compact.ensures.disk_asked is engine stands)

pub returns-in-Compact-clause-link_asked : goal.returns-in-Compact-clause-link_asked
returns-in-Compact-clause-link_asked g c = λ is.
    absurd (none_unsent c.compact.result (g.D.Disk.faults c.args.a.now) (g.D.Disk.faults c.compact.new.a)
    (g.D.Disk.faults c.args.b.now) (g.D.Disk.faults c.compact.new.b) (g.K.Sink.faults c.args.out.now)
    (g.K.Sink.faults c.compact.new.out) c.compact.ensures.cause is)

pub returns-in-List-clause-disk_asked : goal.returns-in-List-clause-disk_asked
returns-in-List-clause-disk_asked g c = λ is engine stands.
    absurd (none_torn c.tell_list.result 0 0 (g.K.Sink.faults c.args.out.now)
    (g.K.Sink.faults c.tell_list.new.out) c.tell_list.ensures.cause is)

pub returns-in-List-clause-link_asked : goal.returns-in-List-clause-link_asked
returns-in-List-clause-link_asked g c = λ is.
    absurd (none_unsent c.tell_list.result 0 0 0 0 (g.K.Sink.faults c.args.out.now)
    (g.K.Sink.faults c.tell_list.new.out) c.tell_list.ensures.cause is)

pub returns-in-Status-clause-disk_asked : goal.returns-in-Status-clause-disk_asked
returns-in-Status-clause-disk_asked g c = λ is engine stands.
    absurd (none_torn c.tell_status.result 0 0 (g.K.Sink.faults c.args.out.now)
    (g.K.Sink.faults c.tell_status.new.out) c.tell_status.ensures.cause is)

pub returns-in-Status-clause-link_asked : goal.returns-in-Status-clause-link_asked
returns-in-Status-clause-link_asked g c = λ is.
    absurd (none_unsent c.tell_status.result 0 0 0 0 (g.K.Sink.faults c.args.out.now)
    (g.K.Sink.faults c.tell_status.new.out) c.tell_status.ensures.cause is)

pub returns-in-Observe-clause-disk_asked : goal.returns-in-Observe-clause-disk_asked
returns-in-Observe-clause-disk_asked g c = λ is engine stands.
    absurd (none_torn c.take_report.result 0 0 (g.K.Sink.faults c.args.out.now)
    (g.K.Sink.faults c.take_report.new.out) c.take_report.ensures.cause is)

pub returns-in-Observe-clause-link_asked : goal.returns-in-Observe-clause-link_asked
returns-in-Observe-clause-link_asked g c = λ is.
    absurd (none_unsent c.take_report.result 0 0 0 0 (g.K.Sink.faults c.args.out.now)
    (g.K.Sink.faults c.take_report.new.out) c.take_report.ensures.cause is)

pub returns-in-Query-clause-disk_asked : goal.returns-in-Query-clause-disk_asked
returns-in-Query-clause-disk_asked g c = λ is engine stands.
    absurd (none_torn c.tell_answer.result 0 0 (g.K.Sink.faults c.args.out.now)
    (g.K.Sink.faults c.tell_answer.new.out) c.tell_answer.ensures.cause is)

pub returns-in-Query-clause-link_asked : goal.returns-in-Query-clause-link_asked
returns-in-Query-clause-link_asked g c = λ is.
    absurd (none_unsent c.tell_answer.result 0 0 0 0 (g.K.Sink.faults c.args.out.now)
    (g.K.Sink.faults c.tell_answer.new.out) c.tell_answer.ensures.cause is)

pub returns-in-Bind-clause-disk_asked : goal.returns-in-Bind-clause-disk_asked
returns-in-Bind-clause-disk_asked g c = λ is engine stands.
    absurd (none_torn c.open_ports.result (g.L.Link.faults c.args.link.now)
    (g.L.Link.faults c.open_ports.new.link) (g.K.Sink.faults c.args.out.now)
    (g.K.Sink.faults c.open_ports.new.out) c.open_ports.ensures.cause is)

pub returns-in-Bind-clause-link_asked : goal.returns-in-Bind-clause-link_asked
returns-in-Bind-clause-link_asked g c = λ is.
    subst (λ (l : Line). AsksLink l c.args.self.now.bound) (sym c.in-Bind.is)
    (c.open_ports.ensures.link_asked is)

pub returns-in-Serve-clause-disk_asked : goal.returns-in-Serve-clause-disk_asked
returns-in-Serve-clause-disk_asked g c = λ is engine stands.
    absurd (none_torn c.take_turns.result (g.L.Link.faults c.args.link.now)
    (g.L.Link.faults c.take_turns.new.link) (g.K.Sink.faults c.args.out.now)
    (g.K.Sink.faults c.take_turns.new.out) c.take_turns.ensures.cause is)

pub returns-in-Serve-clause-link_asked : goal.returns-in-Serve-clause-link_asked
returns-in-Serve-clause-link_asked g c = λ is.
    subst (λ (l : Line). AsksLink l c.args.self.now.bound) (sym c.in-Serve.is)
    (c.take_turns.ensures.link_asked is)

pub returns-in-List-clause-torn : goal.returns-in-List-clause-torn
returns-in-List-clause-torn g c = λ is engine stands held.
    absurd (none_torn c.tell_list.result 0 0 (g.K.Sink.faults c.args.out.now)
    (g.K.Sink.faults c.tell_list.new.out) c.tell_list.ensures.cause is)

pub returns-in-Status-clause-torn : goal.returns-in-Status-clause-torn
returns-in-Status-clause-torn g c = λ is engine stands held.
    absurd (none_torn c.tell_status.result 0 0 (g.K.Sink.faults c.args.out.now)
    (g.K.Sink.faults c.tell_status.new.out) c.tell_status.ensures.cause is)

pub returns-in-Observe-clause-torn : goal.returns-in-Observe-clause-torn
returns-in-Observe-clause-torn g c = λ is engine stands held.
    absurd (none_torn c.take_report.result 0 0 (g.K.Sink.faults c.args.out.now)
    (g.K.Sink.faults c.take_report.new.out) c.take_report.ensures.cause is)

pub returns-in-Query-clause-torn : goal.returns-in-Query-clause-torn
returns-in-Query-clause-torn g c = λ is engine stands held.
    absurd (none_torn c.tell_answer.result 0 0 (g.K.Sink.faults c.args.out.now)
    (g.K.Sink.faults c.tell_answer.new.out) c.tell_answer.ensures.cause is)

pub returns-in-Bind-clause-torn : goal.returns-in-Bind-clause-torn
returns-in-Bind-clause-torn g c = λ is engine stands held.
    absurd (none_torn c.open_ports.result (g.L.Link.faults c.args.link.now)
    (g.L.Link.faults c.open_ports.new.link) (g.K.Sink.faults c.args.out.now)
    (g.K.Sink.faults c.open_ports.new.out) c.open_ports.ensures.cause is)

pub returns-in-Serve-clause-torn : goal.returns-in-Serve-clause-torn
returns-in-Serve-clause-torn g c = λ is engine stands held.
    absurd (none_torn c.take_turns.result (g.L.Link.faults c.args.link.now)
    (g.L.Link.faults c.take_turns.new.link) (g.K.Sink.faults c.args.out.now)
    (g.K.Sink.faults c.take_turns.new.out) c.take_turns.ensures.cause is)
