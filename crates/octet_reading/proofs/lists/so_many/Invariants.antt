use Rattle.std.proofs.Common.{◌≡◌, ◌-◌}
use Rattle.octet_reading.specs.Readers.{so_many}
use Rattle.octet_reading.proofs.Loop.{with_front}
use Rattle.octet_reading.proofs.lists.so_many.Given as goal

abbrev pub invariant-loop : goal.invariant-loop
invariant-loop g l =
    with_front l.values.items (so_many (g.F.Field.reading l.field) (l.count - l.counter) l.rest)
    ≡ so_many (g.F.Field.reading l.field) l.count l.bytes
