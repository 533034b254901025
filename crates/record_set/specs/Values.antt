-- The values of sets.
use Rattle.rdata.specs.Datum.{Datum}
use Rattle.rdata.specs.Layout.{IsLayout}

-- a value in the layout of its own type
abbrev pub IsInLayout : Datum → Type 0
IsInLayout value = IsLayout value.rtype value.wire
