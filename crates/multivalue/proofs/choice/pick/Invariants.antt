use Rattle.std.proofs.Common.{◌≡◌, ◌-◌, length, take, drop, replicate}
use Rattle.multivalue.specs.Choice.{cyclic_from}
use Rattle.multivalue.proofs.choice.pick.Given as goal

abbrev pub invariant-loop-j : goal.invariant-loop-j
invariant-loop-j l = record {
  room : length l.places ≡ 8;
  front : take l.j l.places ≡ take l.j (cyclic_from l.from l.considered);
  behind : drop l.j l.places ≡ replicate (8 - l.j) 0;
}
