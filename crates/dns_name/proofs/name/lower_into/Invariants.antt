use Rattle.std.proofs.Common.{◌≡◌, map, take, drop}
use Rattle.std.specs.Char.{to_ascii_lowercase}
use Rattle.dns_name.proofs.name.lower_into.Given as goal

abbrev pub invariant-loop-i : goal.invariant-loop-i
invariant-loop-i l = record {
  lowered : take l.i l.into ≡ map to_ascii_lowercase (take l.i l.from);
  rest : drop l.i l.into ≡ drop l.i l.fn.into;
}
