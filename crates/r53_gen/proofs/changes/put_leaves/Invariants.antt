use Rattle.std.proofs.Common.{◌≡◌, ◌+◌, ◌*◌, ◌≤◌, ◌++◌, length, take}
use Rattle.r53_gen.specs.Lines.{listed, opening, weighted_sets}
use Rattle.r53_gen.proofs.changes.put_leaves.Given as goal

abbrev pub invariant-loop-i : goal.invariant-loop-i
invariant-loop-i l = record {
  text : take l.at l.into ≡ opening ++ listed weighted_sets l.i;
  end : l.at ≡ length opening + length (listed weighted_sets l.i);
  within : l.at ≤ 100 + l.i * 501;
  room : length l.into ≡ length l.fn.into;
}
