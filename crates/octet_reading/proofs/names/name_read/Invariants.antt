use Rattle.std.proofs.Common.{◌≡◌, ◌≤◌, length}
use Rattle.octet_reading.specs.Names.{name_read_from, name_read}
use Rattle.octet_reading.proofs.names.name_read.Given as goal

abbrev pub invariant-loop-rest : goal.invariant-loop-rest
invariant-loop-rest l = (1 ≤ l.room) × (name_read_from l.room 0 l.rest ≡ name_read l.bytes)

abbrev pub decreases-loop-rest : goal.decreases-loop-rest
decreases-loop-rest l = length l.rest
