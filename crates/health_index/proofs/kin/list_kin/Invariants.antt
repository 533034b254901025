use Rattle.std.proofs.Common.{◌≡◌, ◌≤◌, ◌*◌, length}
use Rattle.std.specs.Prelude.{take, vec_capacity}
use Rattle.health_index.specs.Kin.{kin_of}
use Rattle.health_index.proofs.kin.list_kin.Given as goal

abbrev pub invariant-loop-held : goal.invariant-loop-held
invariant-loop-held l = record {
  items : l.kin.items ≡ kin_of (take l.held-index l.list);
  few : length l.kin.items ≤ l.held-index * 257;
  room : vec_capacity l.kin ≡ vec_capacity l.fn.kin;
}
