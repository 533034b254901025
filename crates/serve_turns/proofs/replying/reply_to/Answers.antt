use Rattle.std.proofs.Common.{List, ℕ, subst, take}
use Rattle.settled_replies.specs.Names.{AreOctets}
use Rattle.serve_turns.proofs.Settled.{answered_by, by_all}
use Rattle.serve_turns.proofs.replying.reply_to.Goals as goal

pub returns-in-Some-clause-gives : goal.returns-in-Some-clause-gives
returns-in-Some-clause-gives c = λ engine serves.
    by_all engine c.args.tables.now
    (record { peer = c.args.peer; words = c.args.words.now }) (take c.args.len c.args.packet.now)
    (take c.in-Some.size c.answer.new.octets)
    (answered_by engine c.args.tables.now c.args.replies.now serves.settled c.args.packet.now c.answer.new.octets
    c.args.len c.in-Some.size c.in-Some.ensures.kept.0 c.in-Some.ensures.long c.requires.len
    (subst (λ (l : List ℕ). AreOctets l) c.front.ensures c.known_octets.ensures)
    c.in-Some.ensures.kept.1 c.in-Some.ensures.kept.2)
