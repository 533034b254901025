use Rattle.std.proofs.Common.{◌≡◌, drop}
use Rattle.std.specs.List.{list_all}
use Rattle.octet_reading.specs.Names.{is_lower}
use Rattle.octet_reading.proofs.names.are_lower.Given as goal

abbrev pub invariant-loop-b : goal.invariant-loop-b
invariant-loop-b l = list_all is_lower l.octets ≡ list_all is_lower (drop l.b-index l.octets)
