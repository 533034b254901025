use Rattle.std.proofs.Common.{◌≡◌, ◌-◌, length}
use Rattle.dns_wire.proofs.Names.{KeepsLabels}
use Rattle.dns_wire.proofs.pointers.add_octets.Given as goal

abbrev pub invariant-loop-from : goal.invariant-loop-from
invariant-loop-from l =
    record { kept : KeepsLabels l.asked l.octets l.from; untouched : l.buffer ≡ l.fn.buffer }

abbrev pub decreases-loop-from : goal.decreases-loop-from
decreases-loop-from l = length l.octets - l.from
