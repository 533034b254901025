use Rattle.std.proofs.Common.{◌++◌, ◌∙◌, List, Option, ℕ, refl, subst, take}
use Rattle.session_model.specs.Engine.{QueryGives}
use Rattle.serve_turns.proofs.Packets.{answered, silent}
use Rattle.serve_turns.specs.Settled.{Serves}
use Rattle.serve_turns.proofs.turning.answer.Goals as goal

pub returns-in-None-clause-leaves : goal.returns-in-None-clause-leaves
returns-in-None-clause-leaves g c = λ before old arrivals stands_for stands.
    silent c.args.tables.now before c.args.peer (take c.args.len c.args.packet.now) old arrivals
    (record {
      words = g.R.Rng.stream c.args.words.now;
      turns = c.args.turns.now;
      coming = g.L.Link.coming c.args.link.now;
      sent = g.L.Link.sent c.args.link.now;
    })
    stands (λ engine. Serves engine c.args.tables.now c.reply_to-told.new.store c.reply_to-told.new.replies) c.draw-drawn.result
    c.draw-drawn.ensures.drawn
    (c.reply_to-told.ensures.serves old.engine stands_for)
    (record {
      words = g.R.Rng.stream c.draw-drawn.new.words;
      turns = c.count_packet.new.turns;
      coming = g.L.Link.coming c.args.link.now;
      sent = g.L.Link.sent c.args.link.now;
    })
    c.draw-drawn.ensures.behind refl
    (subst (λ (o : Option (List ℕ)). QueryGives old.engine c.args.tables.now
    (record { peer = c.args.peer.address; words = c.draw-drawn.result }) (take c.args.len c.args.packet.now) o)
    (c.in-None.ensures.none refl) (c.reply_to-told.ensures.gives old.engine stands_for))
    c.count_packet.ensures refl

pub returns-in-Whole-clause-leaves : goal.returns-in-Whole-clause-leaves
returns-in-Whole-clause-leaves g c = λ before old arrivals stands_for stands.
    answered c.args.tables.now before c.args.peer (take c.args.len c.args.packet.now) old arrivals
    (record {
      words = g.R.Rng.stream c.args.words.now;
      turns = c.args.turns.now;
      coming = g.L.Link.coming c.args.link.now;
      sent = g.L.Link.sent c.args.link.now;
    })
    stands (λ engine. Serves engine c.args.tables.now c.reply_to-told.new.store c.reply_to-told.new.replies) c.draw-drawn.result
    c.draw-drawn.ensures.drawn
    (c.reply_to-told.ensures.serves old.engine stands_for)
    (record {
      words = g.R.Rng.stream c.draw-drawn.new.words;
      turns = c.count_packet-in-Whole.new.turns;
      coming = g.L.Link.coming c.send.new.self;
      sent = g.L.Link.sent c.send.new.self;
    })
    c.draw-drawn.ensures.behind c.in-Whole.ensures.coming c.in-Some.octets.now
    (subst (λ (o : Option (List ℕ)). QueryGives old.engine c.args.tables.now
    (record { peer = c.args.peer.address; words = c.draw-drawn.result }) (take c.args.len c.args.packet.now) o)
    c.in-Some.ensures.some (c.reply_to-told.ensures.gives old.engine stands_for))
    c.count_packet-in-Whole.ensures
    (c.in-Whole.ensures.leaves (before ++ old.sent) stands.sent)

pub returns-in-Failed-clause-leaves : goal.returns-in-Failed-clause-leaves
returns-in-Failed-clause-leaves g c = λ before old arrivals stands_for stands. (
  c.reply_to-told.ensures.serves old.engine stands_for,
  c.in-Failed.ensures.leaves (before ++ old.sent) stands.sent,
  c.in-Failed.ensures.coming ∙ stands.coming,
)
