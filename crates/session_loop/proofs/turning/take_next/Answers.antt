use Rattle.std.proofs.Common.{◌≡◌, ◌∙◌, ◌+◌, ℕ, List, [], Option, None, Some, ap, inl, inr, refl, subst, sym}
use Rattle.engine_model.specs.Engine.{Journal}
use Rattle.line_splitting.specs.Lines.{Line}
use Rattle.line_splitting.specs.Reading.{GivesLine, events}
use Rattle.session_loop.proofs.Files.{behind_none, line_files, stays}
use Rattle.session_loop.proofs.Turns.{all_now, at_end, at_limit, cause_of, is_more, is_whole, line_turn, link_whole, long_cause, long_turn, read, never_read, broken_now, went_whole}
use Rattle.session_loop.specs.Ending.{FilesKept, HasCause}
use Rattle.session_loop.specs.Turning.{RoundLeaves}
use Rattle.session_loop.specs.declared.ended.Ended.{Ended}
use Rattle.session_server.proofs.Files.{are_files, open_alike}
use Rattle.session_server.specs.Holding.{Holds}
use Rattle.session_server.specs.Journaled.{State as Kept, config_of}
use Rattle.session_server.specs.Standing.{Server, StandsFor}
use Rattle.session_server.specs.Stores.{StandsFor as StoreStandsFor}
use Rattle.session_server.specs.Taken.{Taken}
use Rattle.zone_journal.specs.Pairs.{BothRead}
use Rattle.std.specs.Prelude.{IfSome}
use Rattle.session_loop.proofs.turning.take_next.Goals as goal

pub returns-in-Line-clause-leaves : goal.returns-in-Line-clause-leaves
returns-in-Line-clause-leaves g c = λ around old left held before same stands files ports has tells was.
    subst (λ (r : Option Ended). RoundLeaves r g.D.Disk.images c.take_line.new.a c.take_line.new.b around c.args.reader.now c.next.new.self left
    (g.S.Source.left c.next.new.source) old c.take_line.new.self (g.L.Link.coming c.take_line.new.link) (g.R.Rng.stream c.take_line.new.words) held before
    (g.K.Sink.held c.take_line.new.out) (g.L.Link.sent c.take_line.new.link))
    (sym c.ended_of.ensures)
    (line_turn g.D.Disk.images c.take_line.new.a c.take_line.new.b around c.args.reader.now c.next.new.self left
    (g.S.Source.left c.next.new.source) (c.in-Line.ensures.leaves left has) old c.take_line.new.self
    (g.L.Link.coming c.take_line.new.link) (g.R.Rng.stream c.take_line.new.words) held before (g.K.Sink.held c.take_line.new.out)
    (g.L.Link.sent c.take_line.new.link) c.line.result.now
    (subst (λ (l : List ℕ). GivesLine c.args.reader.now (Line l) c.next.new.self) (sym c.line.ensures)
    c.in-Line.ensures.answers)
    (BothRead g.D.Disk.reading c.args.a.now c.args.b.now (Holds c.args.server.now.store.kept)) files
    c.take_line.result
    (λ now whole here. are_files g.D.Disk.reading g.D.Disk.images c.standing_opens.ensures c.standing_shapes.ensures c.take_line.new.self.store.kept c.take_line.new.a c.take_line.new.b
    (c.take_line.ensures.stands whole) (c.take_line.ensures.holds files whole) now.engine here.store.config
    (ap (λ (j : Journal). j.side) here.store.journal)
    (ap (λ (j : Journal). j.generation) here.store.journal)
    (ap (λ (j : Journal). j.length) here.store.journal))
    (λ is. are_files g.D.Disk.reading g.D.Disk.images c.standing_opens.ensures c.standing_shapes.ensures c.take_line.new.self.store.kept c.take_line.new.a c.take_line.new.b
    (c.take_line.ensures.stands (link_whole c.take_line.result is))
    (c.take_line.ensures.holds files (link_whole c.take_line.result is)) old.engine
    (stands.store.config ∙ ap (λ (k : Kept). config_of k) (sym (c.take_line.ensures.kept is)))
    (ap (λ (j : Journal). j.side) stands.store.journal
    ∙ ap (λ (k : Kept). k.journal.side) (sym (c.take_line.ensures.kept is)))
    (ap (λ (j : Journal). j.generation) stands.store.journal
    ∙ ap (λ (k : Kept). k.journal.generation) (sym (c.take_line.ensures.kept is)))
    (ap (λ (j : Journal). j.length) stands.store.journal
    ∙ ap (λ (k : Kept). k.journal.at + 1) (sym (c.take_line.ensures.kept is))))
    (λ is. record {
      coming = (c.take_line.ensures.undrawn is).0 ∙ stands.coming;
      words = stands.words ∙ sym (c.take_line.ensures.undrawn is).1;
    })
    (λ is. c.take_line.ensures.disk_asked is old.engine stands.store)
    (c.take_line.ensures.leaves around old held before same stands ports tells was))

pub returns-in-Line-clause-stands : goal.returns-in-Line-clause-stands
returns-in-Line-clause-stands g c = λ is. c.take_line.ensures.stands
    (went_whole c.take_line.result (sym c.ended_of.ensures ∙ is))

pub returns-in-Line-clause-holds : goal.returns-in-Line-clause-holds
returns-in-Line-clause-holds g c = λ held is. c.take_line.ensures.holds held
    (went_whole c.take_line.result (sym c.ended_of.ensures ∙ is))

pub returns-in-Line-clause-cause : goal.returns-in-Line-clause-cause
returns-in-Line-clause-cause g c =
    subst (λ (r : Option Ended). IfSome r (λ how. HasCause how (g.S.Source.faults c.args.input.now)
    (g.S.Source.faults c.next.new.source) (g.D.Disk.faults c.args.a.now) (g.D.Disk.faults c.take_line.new.a)
    (g.D.Disk.faults c.args.b.now) (g.D.Disk.faults c.take_line.new.b) (g.L.Link.faults c.args.link.now)
    (g.L.Link.faults c.take_line.new.link) (g.K.Sink.faults c.args.out.now) (g.K.Sink.faults c.take_line.new.out)))
    (sym c.ended_of.ensures)
    (cause_of c.take_line.result (g.S.Source.faults c.args.input.now)
    (g.S.Source.faults c.next.new.source) (g.D.Disk.faults c.args.a.now) (g.D.Disk.faults c.take_line.new.a)
    (g.D.Disk.faults c.args.b.now) (g.D.Disk.faults c.take_line.new.b) (g.L.Link.faults c.args.link.now)
    (g.L.Link.faults c.take_line.new.link) (g.K.Sink.faults c.args.out.now) (g.K.Sink.faults c.take_line.new.out)
    c.take_line.ensures.cause)

pub returns-in-TooLong-clause-leaves : goal.returns-in-TooLong-clause-leaves
returns-in-TooLong-clause-leaves g c = λ around old left held before same stands files ports has tells was.
    subst (λ (r : Option Ended). RoundLeaves r g.D.Disk.images c.args.a.now c.args.b.now around c.args.reader.now c.next.new.self left
    (g.S.Source.left c.next.new.source) old c.refuse_line.new.self (g.L.Link.coming c.args.link.now) (g.R.Rng.stream c.args.words.now) held before
    (g.K.Sink.held c.refuse_line.new.out) (g.L.Link.sent c.args.link.now))
    (sym c.ended_of-in-TooLong.ensures)
    (long_turn g.D.Disk.images c.args.a.now c.args.b.now around c.args.reader.now c.next.new.self left
    (g.S.Source.left c.next.new.source) (c.in-TooLong.ensures.leaves left has) old c.refuse_line.new.self
    (g.L.Link.coming c.args.link.now) (g.R.Rng.stream c.args.words.now) held before
    (g.K.Sink.held c.refuse_line.new.out) (g.L.Link.sent c.args.link.now) c.in-TooLong.ensures.answers
    c.refuse_line.result
    (subst (λ (s : Server). StandsFor old s (g.L.Link.coming c.args.link.now) (g.R.Rng.stream c.args.words.now)) (sym c.refuse_line.ensures.same) stands)
    was
    (are_files g.D.Disk.reading g.D.Disk.images c.standing_opens.ensures c.standing_shapes.ensures c.args.server.now.store.kept c.args.a.now c.args.b.now c.requires.stands files old.engine stands.store.config
    (ap (λ (j : Journal). j.side) stands.store.journal)
    (ap (λ (j : Journal). j.generation) stands.store.journal)
    (ap (λ (j : Journal). j.length) stands.store.journal))
    (c.refuse_line.ensures.writes held tells))

pub returns-in-TooLong-clause-cause : goal.returns-in-TooLong-clause-cause
returns-in-TooLong-clause-cause g c =
    subst (λ (r : Option Ended). IfSome r (λ how. HasCause how (g.S.Source.faults c.args.input.now)
    (g.S.Source.faults c.next.new.source) (g.D.Disk.faults c.args.a.now) (g.D.Disk.faults c.args.a.now)
    (g.D.Disk.faults c.args.b.now) (g.D.Disk.faults c.args.b.now) (g.L.Link.faults c.args.link.now)
    (g.L.Link.faults c.args.link.now) (g.K.Sink.faults c.args.out.now) (g.K.Sink.faults c.refuse_line.new.out)))
    (sym c.ended_of-in-TooLong.ensures)
    (long_cause c.refuse_line.result (g.S.Source.faults c.args.input.now)
    (g.S.Source.faults c.next.new.source) (g.D.Disk.faults c.args.a.now)
    (g.D.Disk.faults c.args.a.now) (g.D.Disk.faults c.args.b.now) (g.D.Disk.faults c.args.b.now)
    (g.L.Link.faults c.args.link.now) (g.L.Link.faults c.args.link.now)
    (g.K.Sink.faults c.args.out.now) (g.K.Sink.faults c.refuse_line.new.out) c.refuse_line.ensures.cause)

pub returns-in-Read-clause-leaves : goal.returns-in-Read-clause-leaves
returns-in-Read-clause-leaves g c = λ around old left held before same stands files ports has tells was.
    read around c.args.reader.now c.next.new.self left (g.S.Source.left c.next.new.source) old
    c.args.server.now (g.L.Link.coming c.args.link.now) (g.R.Rng.stream c.args.words.now) held before
    (g.K.Sink.held c.args.out.now) (g.L.Link.sent c.args.link.now)
    c.in-Read.ensures.answers.0 (c.in-Read.ensures.leaves left has) stands tells was

pub returns-in-Failed-clause-leaves : goal.returns-in-Failed-clause-leaves
returns-in-Failed-clause-leaves g c = λ around old left held before same stands files ports has tells was.
    broken_now g.D.Disk.images c.args.a.now c.args.b.now around old held before
    (g.L.Link.coming c.args.link.now) (g.R.Rng.stream c.args.words.now) (g.K.Sink.held c.args.out.now)
    (g.L.Link.sent c.args.link.now) c.args.server.now stands c.args.reader.now c.next.new.self left
    (g.S.Source.left c.next.new.source) c.in-Failed.ensures.answers.0
    (c.in-Failed.ensures.leaves left has) tells was
    (are_files g.D.Disk.reading g.D.Disk.images c.standing_opens.ensures c.standing_shapes.ensures c.args.server.now.store.kept c.args.a.now c.args.b.now c.requires.stands files old.engine stands.store.config
    (ap (λ (j : Journal). j.side) stands.store.journal)
    (ap (λ (j : Journal). j.generation) stands.store.journal)
    (ap (λ (j : Journal). j.length) stands.store.journal))

pub returns-in-Failed-clause-going : goal.returns-in-Failed-clause-going
returns-in-Failed-clause-going g c = λ is. c.in-Failed.ensures.answers.0.going

pub returns-in-Line-clause-going : goal.returns-in-Line-clause-going
returns-in-Line-clause-going g c = λ is. absurd (never_read c.take_line.result (sym c.ended_of.ensures ∙ is))

pub returns-in-TooLong-clause-going : goal.returns-in-TooLong-clause-going
returns-in-TooLong-clause-going g c = λ is.
    absurd (never_read c.refuse_line.result (sym c.ended_of-in-TooLong.ensures ∙ is))

pub returns-in-Ended-clause-leaves : goal.returns-in-Ended-clause-leaves
returns-in-Ended-clause-leaves g c = λ around old left held before same stands files ports has tells was. (
  is_whole c.args.reader.now left c.in-Ended.ensures.answers.1,
  all_now g.D.Disk.images c.args.a.now c.args.b.now around old held before
      (g.L.Link.coming c.args.link.now) (g.R.Rng.stream c.args.words.now) (g.K.Sink.held c.args.out.now)
      (g.L.Link.sent c.args.link.now) c.args.server.now stands c.args.reader.now left
      (g.S.Source.left c.next.new.source) (c.in-Ended.ensures.leaves left has)
      (at_end c.args.reader.now left c.in-Ended.ensures.answers.1)
      (c.in-Ended.ensures.answers.0.none_left left) tells was
      (are_files g.D.Disk.reading g.D.Disk.images c.standing_opens.ensures c.standing_shapes.ensures c.args.server.now.store.kept c.args.a.now c.args.b.now c.requires.stands files old.engine stands.store.config
      (ap (λ (j : Journal). j.side) stands.store.journal)
      (ap (λ (j : Journal). j.generation) stands.store.journal)
      (ap (λ (j : Journal). j.length) stands.store.journal)),
)

pub returns-in-InputTooLong-clause-leaves : goal.returns-in-InputTooLong-clause-leaves
returns-in-InputTooLong-clause-leaves g c = λ around old left held before same stands files ports has tells was. (
  is_more c.args.reader.now left c.in-InputTooLong.ensures.answers.1
      c.in-InputTooLong.ensures.answers.2,
  all_now g.D.Disk.images c.args.a.now c.args.b.now around old held before
      (g.L.Link.coming c.args.link.now) (g.R.Rng.stream c.args.words.now) (g.K.Sink.held c.args.out.now)
      (g.L.Link.sent c.args.link.now) c.args.server.now stands c.args.reader.now left
      (g.S.Source.left c.next.new.source) (c.in-InputTooLong.ensures.leaves left has)
      (at_limit c.args.reader.now left c.in-InputTooLong.ensures.answers.1
      c.in-InputTooLong.ensures.answers.2)
      (c.in-InputTooLong.ensures.answers.0.none_left left) tells was
      (are_files g.D.Disk.reading g.D.Disk.images c.standing_opens.ensures c.standing_shapes.ensures c.args.server.now.store.kept c.args.a.now c.args.b.now c.requires.stands files old.engine stands.store.config
      (ap (λ (j : Journal). j.side) stands.store.journal)
      (ap (λ (j : Journal). j.generation) stands.store.journal)
      (ap (λ (j : Journal). j.length) stands.store.journal)),
)

pub returns-in-Line-clause-made : goal.returns-in-Line-clause-made
returns-in-Line-clause-made g c = λ is. c.take_line.ensures.made

pub returns-in-Line-clause-files : goal.returns-in-Line-clause-files
returns-in-Line-clause-files g c = λ engine stands held.
    subst (λ (r : Option Ended). IfSome r (λ how. FilesKept how g.D.Disk.images c.take_line.new.a
    c.take_line.new.b engine.config)) (sym c.ended_of.ensures)
    (line_files g.D.Disk.images c.take_line.new.a c.take_line.new.b engine.config
    c.take_line.result (λ is. c.take_line.ensures.torn is engine stands held)
    (λ whole.
    let its = c.take_line.ensures.made engine stands in (
      its.0.config,
      its.1,
      open_alike g.D.Disk.reading g.D.Disk.images c.standing_opens.ensures
          c.standing_shapes.ensures c.take_line.new.self.store.kept c.take_line.new.a c.take_line.new.b
          (c.take_line.ensures.stands whole) (c.take_line.ensures.holds held whole) its.0.config
          its.2.config,
    )))

pub returns-in-TooLong-clause-made : goal.returns-in-TooLong-clause-made
returns-in-TooLong-clause-made g c = λ is engine stands. (
  engine,
  inl refl,
  subst (λ (s : Server). StoreStandsFor engine s.store) (sym c.refuse_line.ensures.same) stands,
)

pub returns-in-TooLong-clause-files : goal.returns-in-TooLong-clause-files
returns-in-TooLong-clause-files g c = λ engine stands held.
    let opens = (open_alike g.D.Disk.reading g.D.Disk.images c.standing_opens.ensures
    c.standing_shapes.ensures c.args.server.now.store.kept c.args.a.now c.args.b.now c.requires.stands held engine.config
    stands.config) in
    subst (λ (r : Option Ended). IfSome r (λ how. FilesKept how g.D.Disk.images c.args.a.now
    c.args.b.now engine.config)) (sym c.ended_of-in-TooLong.ensures)
    (line_files g.D.Disk.images c.args.a.now c.args.b.now engine.config c.refuse_line.result
    (λ is. stays g.D.Disk.images c.args.a.now c.args.b.now engine.config opens.opens)
    (λ whole. (engine.config, inl refl, opens)))

pub returns-in-Read-clause-made : goal.returns-in-Read-clause-made
returns-in-Read-clause-made g c = λ is engine stands. (engine, inl refl, stands)

pub returns-in-Failed-clause-files : goal.returns-in-Failed-clause-files
returns-in-Failed-clause-files g c = λ engine stands held.
    behind_none g.D.Disk.images c.args.a.now c.args.b.now engine.config
    (open_alike g.D.Disk.reading g.D.Disk.images c.standing_opens.ensures
    c.standing_shapes.ensures c.args.server.now.store.kept c.args.a.now c.args.b.now c.requires.stands held engine.config
    stands.config)

pub returns-in-Ended-clause-files : goal.returns-in-Ended-clause-files
returns-in-Ended-clause-files g c = λ engine stands held.
    behind_none g.D.Disk.images c.args.a.now c.args.b.now engine.config
    (open_alike g.D.Disk.reading g.D.Disk.images c.standing_opens.ensures
    c.standing_shapes.ensures c.args.server.now.store.kept c.args.a.now c.args.b.now c.requires.stands held engine.config
    stands.config)

pub returns-in-InputTooLong-clause-files : goal.returns-in-InputTooLong-clause-files
returns-in-InputTooLong-clause-files g c = λ engine stands held.
    behind_none g.D.Disk.images c.args.a.now c.args.b.now engine.config
    (open_alike g.D.Disk.reading g.D.Disk.images c.standing_opens.ensures
    c.standing_shapes.ensures c.args.server.now.store.kept c.args.a.now c.args.b.now c.requires.stands held engine.config
    stands.config)
