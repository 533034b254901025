use Rattle.std.proofs.Common.{◌≡◌, ◌-◌}
use Rattle.octet_reading.specs.Readers.{so_many}
use Rattle.octet_reading.proofs.Loop.{with_front}
use Rattle.snapshot_octets.specs.ReadingOfCommandCodec.{set_at}
use Rattle.snapshot_reading.proofs.zones.sets_in.Given as goal

abbrev pub invariant-loop : goal.invariant-loop
invariant-loop l =
    with_front l.sets.items (so_many set_at (l.count - l.counter) l.rest)
    ≡ so_many set_at l.count l.bytes
