-- What is read from a place of octets on, and the place behind it.
use Rattle.std.specs.Prelude.{◌≡◌, ℕ, ◌-◌, List, length, drop, Option, None, Some, Result, Ok, Err}
use Rattle.std.specs.Prelude.{⊤}
use Rattle.octet_reading.specs.Readers.{Reader}
use Rattle.snapshot_reading.specs.declared.faults.SnapshotFault.{SnapshotFault}
use Rattle.snapshot_reading.specs.declared.faults.SnapshotFault.TheVariants as fault

-- a value, and the place behind it among so many octets; or nothing, where there is none
abbrev pub with_place : {A : Type 0} → (total : ℕ) → Result (A × List ℕ) ℕ → Option (A × ℕ)
with_place total (Ok x) = Some (x.0, total - length x.1)
with_place total (Err left) = None

-- What a reader reads from a place on, and the place behind it; or nothing, where it refuses.
abbrev pub found_at : {A : Type 0} → Reader A → (octets : List ℕ) → (at : ℕ) → Option (A × ℕ)
found_at read octets at = with_place (length octets) (read (drop at octets))

-- What a call answered, seen by view, is what is found, unless memory ran out.
abbrev pub GivesOrNone : {X Y : Type 0} → (X → Y) → Result X SnapshotFault → Option Y → Type 0
GivesOrNone view (Ok x) found = found ≡ Some (view x)
GivesOrNone view (Err fault.Bad) found = found ≡ None
GivesOrNone view (Err fault.OutOfMemory) found = ⊤
