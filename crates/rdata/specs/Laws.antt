-- Laws over the definitions of this crate.
use Rattle.std.specs.Prelude.{◌≡◌, ◌≤◌, ◌⊎◌, ◌↔◌, ℕ, List, length, Result, Ok, Err}
use Rattle.field_text.specs.Names.{AreOctets}
use Rattle.field_text.specs.RTypeRecord.{RType}
use Rattle.field_text.specs.Layout.{IsLayout}
use Rattle.rdata.specs.Datum.{Datum}
use Rattle.rdata.specs.Gives.{IsValueOfText, GivesText, ReadsWire}
use Rattle.rdata.specs.Reading.{Reads, most_text}
use Rattle.rdata.specs.ValueOfText.{value_of_text}
use Rattle.rdata.specs.Written.{text_of}
use Rattle.rdata.specs.declared.faults.ValueFault.{ValueFault}
use Rattle.rdata.specs.declared.faults.WireFault.{WireFault}
use Rattle.rdata.specs.declared.faults.WireFault.TheVariants as wire

-- A text gives one value, or one fault.
abbrev pub OneReading : Type 0
OneReading =
    (rtype : RType) (text : List ℕ) (read other : Result (List ℕ) ValueFault)
    → Reads rtype text read → Reads rtype text other
    → read ≡ other

-- The written text of a value, where it isn't too long to be read, gives that value.
abbrev pub WrittenTextReadsBack : Type 0
WrittenTextReadsBack =
    (rtype : RType) (octets : List ℕ) → IsLayout rtype octets → AreOctets octets
    → length (text_of rtype octets) ≤ most_text
    → Reads rtype (text_of rtype octets) (Ok octets)

-- The octets of a value are read as that value, where there is memory.
abbrev pub WireReadsBack : Type 0
WireReadsBack =
    (datum : Datum) (read : Result Datum WireFault) → IsLayout datum.rtype datum.wire
    → ReadsWire datum.rtype datum.wire read
    → (read ≡ Ok datum) ⊎ (read ≡ Err wire.OutOfMemory)

-- The value of a text as a function of it is what the text gives.
abbrev pub ValueOfText : Type 0
ValueOfText =
    (rtype : RType) (text : List ℕ) (read : Result (List ℕ) ValueFault)
    → (value_of_text rtype text ≡ read) ↔ Reads rtype text read

-- So is what reading a text answers, but for want of memory.
abbrev pub TextsReadAsValues : Type 0
TextsReadAsValues =
    (rtype : RType) (text : List ℕ) (read : Result Datum ValueFault)
    → GivesText rtype text read ↔ IsValueOfText rtype text read
