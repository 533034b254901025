use Rattle.std.proofs.Common.{◌≡◌, ◌+◌, ◌*◌, ◌≤◌, ◌++◌, length, take}
use Rattle.r53_gen.specs.Lines.{listed, opening, failover_sets}
use Rattle.r53_gen.proofs.changes.put_pairs.Given as goal

abbrev pub invariant-loop-i : goal.invariant-loop-i
invariant-loop-i l = record {
  text : take l.at l.into ≡ opening ++ listed failover_sets l.i;
  end : l.at ≡ length opening + length (listed failover_sets l.i);
  within : l.at ≤ 100 + l.i * 541;
  room : length l.into ≡ length l.fn.into;
}
