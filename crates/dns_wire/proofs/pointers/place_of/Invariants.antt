use Rattle.std.proofs.Common.{◌-◌, length}
use Rattle.dns_wire.proofs.Names.{IsSought}
use Rattle.dns_wire.proofs.pointers.place_of.Given as goal

abbrev pub invariant-loop-at : goal.invariant-loop-at
invariant-loop-at l = IsSought l.asked l.octets l.at

abbrev pub decreases-loop-at : goal.decreases-loop-at
decreases-loop-at l = length l.asked - l.at
