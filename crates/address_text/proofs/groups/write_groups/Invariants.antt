use Rattle.std.proofs.Common.{◌+◌, ◌*◌, ◌≤◌, ◌∷◌, take, get_or}
use Rattle.std.specs.Net.Text.{groups_text}
use Rattle.address_text.specs.Wrote.{Wrote}
use Rattle.address_text.proofs.groups.write_groups.Given as goal

abbrev pub invariant-loop-segment : goal.invariant-loop-segment
invariant-loop-segment l = record {
  room : l.end ≤ l.fn.at + (5 * l.segment-index + 4);
  wrote : Wrote l.fn.into l.into l.fn.at l.end
      (groups_text (get_or l.segments 0 0 ∷ take l.segment-index l.rest));
}
