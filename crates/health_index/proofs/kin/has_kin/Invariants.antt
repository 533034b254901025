use Rattle.std.proofs.Common.{◌≡◌, ◌↔◌, drop}
use Rattle.health_index.specs.Kin.{kin_of}
use Rattle.health_index.proofs.kin.has_kin.Given as goal

abbrev pub invariant-loop-held : goal.invariant-loop-held
invariant-loop-held l = (l.kin ≡ kin_of l.list) ↔ (l.rest ≡ kin_of (drop l.held-index l.list))
