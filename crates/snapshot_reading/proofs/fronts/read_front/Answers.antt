use Rattle.std.proofs.Common.{arith}
use Rattle.snapshot_reading.specs.Parts.{front_at}
use Rattle.snapshot_reading.proofs.Leaving.{are_octets, front_leaves, rest_within}
use Rattle.snapshot_reading.proofs.fronts.read_front.Goals as goal

pub place_of-requires : goal.place_of-requires
place_of-requires c =
    rest_within front_at front_leaves c.args.octets.now _ c.in-Ok.rest.now
    (are_octets c.args.octets.now (λ i. omega (arith, c.type_inv.octets i)))
    c.in-Ok.ensures
