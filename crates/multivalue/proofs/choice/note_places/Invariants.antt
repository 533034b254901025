use Rattle.std.proofs.Common.{◌≡◌, ◌≤◌, ◌++◌, take}
use Rattle.multivalue.proofs.Noted.{rest}
use Rattle.multivalue.proofs.choice.note_places.Given as goal

abbrev pub invariant-loop-i : goal.invariant-loop-i
invariant-loop-i l = record {
  few : l.count ≤ l.i;
  noted : take l.count l.places ++ rest l.all l.healthy l.i ≡ rest l.all l.healthy 0;
}
