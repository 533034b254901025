use Rattle.std.proofs.Common.{◌≡◌, drop}
use Rattle.prefix_text.specs.Marks.{place_from, place_of}
use Rattle.prefix_text.proofs.marks.place_of.Given as goal

abbrev pub invariant-loop-i : goal.invariant-loop-i
invariant-loop-i l = place_from l.separator l.i (drop l.i l.text) ≡ place_of l.separator l.text
