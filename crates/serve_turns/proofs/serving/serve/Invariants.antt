use Rattle.std.proofs.Common.{◌≡◌, ◌≤◌, ◌-◌, length}
use Rattle.serve_turns.proofs.Turns.{SoFar}
use Rattle.serve_turns.specs.Settled.{Serves}
use Rattle.serve_turns.specs.Turning.{AreWithin, GoesOn}
use Rattle.serve_turns.proofs.serving.serve.Given as goal

abbrev pub invariant-loop-turns : goal.invariant-loop-turns
invariant-loop-turns g l = record {
  within : AreWithin l.n l.turns;
  packet : length l.packet ≡ length l.fn.packet;
  room : l.reply.room ≡ l.fn.reply.room;
  reports : GoesOn l.fn.store l.store;
  kept : l.store.kept ≡ l.fn.store.kept;
  ports : g.L.Link.ports l.link ≡ g.L.Link.ports l.fn.link;
  counts : g.L.Link.faults l.fn.link ≤ g.L.Link.faults l.link;
  so_far : SoFar l.tables l.fn.store (g.R.Rng.stream l.fn.words) (g.L.Link.coming l.fn.link)
      (g.L.Link.sent l.fn.link) (λ engine. Serves engine l.tables l.store l.replies) (record {
        words = g.R.Rng.stream l.words;
        turns = l.turns;
        coming = g.L.Link.coming l.link;
        sent = g.L.Link.sent l.link;
      });
}

abbrev pub decreases-loop-turns : goal.decreases-loop-turns
decreases-loop-turns g l = l.n - l.turns.turns
