use Rattle.std.proofs.Common.{◌≡◌, ◌+◌, ◌*◌, ◌≤◌, ◌++◌, length, take}
use Rattle.r53_gen.specs.Lines.{listed, opening, top_set}
use Rattle.r53_gen.proofs.changes.put_tops.Given as goal

abbrev pub invariant-loop-i : goal.invariant-loop-i
invariant-loop-i l = record {
  text : take l.at l.into ≡ opening ++ listed top_set l.i;
  end : l.at ≡ length opening + length (listed top_set l.i);
  within : l.at ≤ 100 + l.i * 261;
  room : length l.into ≡ length l.fn.into;
}
