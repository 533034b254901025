-- What reading octets gives.
use Rattle.std.specs.Prelude.{◌≡◌, ℕ, List, Result, Ok, Err, ⊤}
use Rattle.field_text.specs.RTypeRecord.{RType}
use Rattle.field_text.specs.Layout.{IsLayout}
use Rattle.rdata.specs.Datum.{Datum}
use Rattle.rdata.specs.Reading.{Reads}
use Rattle.rdata.specs.Steps.{FailsWith}
use Rattle.rdata.specs.ValueOfText.{value_of_text}
use Rattle.rdata.specs.declared.faults.ValueFault.{ValueFault}
use Rattle.rdata.specs.declared.faults.WireFault.{WireFault}
use Rattle.rdata.specs.declared.faults.WireFault.TheVariants as wire

-- The value of the octets, where they are in the type's layout.
abbrev pub ReadsWire : RType → (octets : List ℕ) → Result Datum WireFault → Type 0
ReadsWire rtype octets (Ok datum) =
    IsLayout rtype octets × (datum ≡ record { rtype = rtype; wire = octets })
ReadsWire rtype octets (Err wire.Bad) = IsLayout rtype octets → ⊥
ReadsWire rtype octets (Err wire.OutOfMemory) = ⊤

-- The value of a text, or its first fault.
abbrev pub GivesText : RType → (text : List ℕ) → Result Datum ValueFault → Type 0
GivesText rtype text (Ok datum) = (datum.rtype ≡ rtype) × Reads rtype text (Ok datum.wire)
GivesText rtype text (Err fault) = FailsWith (Reads rtype text) fault

-- The same with the function that gives the value.
abbrev pub IsValueOfText : RType → (text : List ℕ) → Result Datum ValueFault → Type 0
IsValueOfText rtype text (Ok datum) =
    (datum.rtype ≡ rtype) × (value_of_text rtype text ≡ Ok datum.wire)
IsValueOfText rtype text (Err fault) = FailsWith (λ read. value_of_text rtype text ≡ read) fault
