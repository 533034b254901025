use Rattle.std.proofs.Common.{◌≤◌, refl, subst, sym, List, ℕ, None, Some, length}
use Rattle.serve_turns.specs.Engine.{QueryGives}
use Rattle.line_server.proofs.Asked.{replied}
use Rattle.line_server.proofs.Short.{query_short}
use Rattle.line_server.specs.Replying.{Answered}
use Rattle.serve_turns.specs.Stores.{StandsFor, State as Store}
use Rattle.serve_turns.specs.Replies.{query_text}
use Rattle.whole_writing.specs.Output.{OutputOf}
use Rattle.line_server.proofs.asking.query.Goals as goal

pub returns-in-Some-clause-leaves : goal.returns-in-Some-clause-leaves
returns-in-Some-clause-leaves g c = λ engine held stands tells.
    let gives = subst (λ (l : List ℕ). QueryGives engine c.args.tables.now
    (record { peer = c.args.asked.now.address; words = c.args.asked.now.words }) l
    (Some c.query.new.reply.bytes)) c.as_slice.ensures (c.in-Some.ensures.gives engine stands) in
    let same = subst (λ (s : Store). StandsFor engine s) (sym c.in-Some.ensures.same) stands in
    replied (Answered c.args.tables.now c.args.asked.now) engine
    (λ after. StandsFor after c.query.new.self) held
    (g.K.Sink.held c.send_octets.new.out) c.send_octets.result c.sent.result
    (sym c.sent.ensures) engine (query_text (Some c.query.new.reply.bytes)) (
      Some c.query.new.reply.bytes,
      gives,
      refl,
      refl,
    )
    same
    (subst (λ (l : List ℕ). OutputOf held (g.K.Sink.held c.send_octets.new.out)
    c.send_octets.result (query_text (Some l)))
    c.bytes.ensures (c.send_octets.ensures.writes held tells
    (subst (λ (l : List ℕ). length l ≤ 4096) (sym c.bytes.ensures)
    (query_short engine c.args.tables.now
    (record { peer = c.args.asked.now.address; words = c.args.asked.now.words })
    c.args.asked.now.packet c.query.new.reply.bytes gives))))

pub returns-in-None-clause-leaves : goal.returns-in-None-clause-leaves
returns-in-None-clause-leaves g c = λ engine held stands tells.
    let same = subst (λ (s : Store). StandsFor engine s) (sym c.in-None.ensures.same) stands in
    replied (Answered c.args.tables.now c.args.asked.now) engine
    (λ after. StandsFor after c.query.new.self) held
    (g.K.Sink.held c.send_silence.new.out) c.send_silence.result c.sent-in-None.result
    (sym c.sent-in-None.ensures) engine (query_text None) (
      None,
      subst (λ (l : List ℕ). QueryGives engine c.args.tables.now
          (record { peer = c.args.asked.now.address; words = c.args.asked.now.words }) l None)
          c.as_slice.ensures (c.in-None.ensures.gives engine stands),
      refl,
      refl,
    )
    same
    (c.send_silence.ensures.writes held tells)
