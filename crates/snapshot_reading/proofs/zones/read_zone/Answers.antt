use Rattle.std.proofs.Common.{arith}
use Rattle.snapshot_octets.specs.Reading.{zone_at}
use Rattle.snapshot_reading.proofs.Leaving.{are_octets, zone_leaves}
use Rattle.snapshot_reading.proofs.Finding.{end_within}
use Rattle.snapshot_reading.proofs.zones.read_zone.Goals as goal

pub place_of-requires : goal.place_of-requires
place_of-requires c =
    end_within zone_at (zone_leaves c.written_reads_back.ensures c.sets_are_told.ensures)
    c.args.octets.now c.args.at c.from_place.result.now _ c.in-Ok.rest.now
    (are_octets c.args.octets.now (λ i. omega (arith, c.type_inv.octets i)))
    c.from_place.ensures c.in-Ok.ensures
