use Rattle.std.proofs.Common.{◌≡◌, ◌+◌, ◌++◌, length}
use Rattle.std.specs.Prelude.{take, vec_capacity, vec_len}
use Rattle.health_index.proofs.kin.push_each.Given as goal

abbrev pub invariant-loop-number : goal.invariant-loop-number
invariant-loop-number l = record {
  items : l.kin.items ≡ l.fn.kin.items ++ take l.number-index l.numbers;
  len : vec_len l.kin ≡ length l.fn.kin.items + l.number-index;
  room : vec_capacity l.kin ≡ vec_capacity l.fn.kin;
}
