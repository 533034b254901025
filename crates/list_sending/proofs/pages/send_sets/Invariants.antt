use Rattle.std.proofs.Common.{◌≤◌, ℕ, List, ◌++◌, drop, take}
use Rattle.std.specs.Prelude.{false, vec_capacity}
use Rattle.set_sending.specs.PiecesOfListWriting.{sets_pieces}
use Rattle.list_sending.specs.Pages.{sets_in}
use Rattle.set_sending.specs.Passing.{IsPassed}
use Rattle.list_sending.proofs.pages.send_sets.Given as goal

abbrev pub invariant-loop-place : goal.invariant-loop-place
invariant-loop-place g l = record {
  capacity : vec_capacity l.fn.text ≤ vec_capacity l.text;
  counts : g.K.Sink.faults l.fn.out ≤ g.K.Sink.faults l.out;
  passes : (held rest text : List ℕ)
      → IsPassed held (g.K.Sink.held l.fn.out) l.fn.text.items
      (sets_pieces false l.fn.zone (drop l.fn.first (take l.fn.end (sets_in l.fn.zones.zones l.fn.zone)))
      ++ rest) text
      → IsPassed held (g.K.Sink.held l.out) l.text.items
      (sets_pieces l.later l.fn.zone (drop l.place (take l.fn.end (sets_in l.fn.zones.zones l.fn.zone)))
      ++ rest) text;
}
