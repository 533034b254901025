-- What reading a set gives.
use Rattle.std.specs.Prelude.{◌≡◌, ℕ, ◌≤◌, List, true, false, Result, Ok, Err, ⊤}
use Rattle.set_fields.specs.Layouts.{is_layout}
use Rattle.set_fields.specs.Datum.{Datum}
use Rattle.set_fields.specs.WireFaultRecord.{WireFault}
use Rattle.set_fields.specs.WireFaultRecord.TheVariants as wire
use Rattle.set_fields.specs.RTypeRecord.{RType}
use Rattle.set_fields.specs.RecordSetRecord.{RecordSet}
use Rattle.set_reading.specs.declared.faults.ReadFault.{ReadFault}
use Rattle.set_reading.specs.declared.faults.ReadFault.TheVariants as fault

-- What a call answered is what reading says, unless memory ran out.
abbrev pub GivesSet : Result (RecordSet × ℕ) ReadFault → Result (RecordSet × ℕ) ℕ → Type 0
GivesSet (Ok x) read = read ≡ Ok x
GivesSet (Err (fault.Bad place)) read = read ≡ Err place
GivesSet (Err fault.OutOfMemory) read = ⊤

-- A set's octets are among those that were given, and a fault stands at one of them or behind the last.
abbrev pub IsInside : ℕ → Result (RecordSet × ℕ) ReadFault → Type 0
IsInside size (Ok x) = x.1 ≤ size
IsInside size (Err (fault.Bad place)) = place ≤ size
IsInside size (Err fault.OutOfMemory) = ⊤

-- What octets are as a value of the type.
abbrev pub ReadsValue : RType → List ℕ → Result Datum WireFault → Type 0
ReadsValue type octets (Ok datum) = (is_layout type octets ≡ true) × (datum ≡ record { rtype = type; wire = octets })
ReadsValue type octets (Err wire.Bad) = is_layout type octets ≡ false
ReadsValue type octets (Err wire.OutOfMemory) = ⊤
