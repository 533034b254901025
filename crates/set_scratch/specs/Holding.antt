-- What a scratch holds: a set, or none.
use Rattle.std.specs.Prelude.{ℕ, ◌<◌, length, Option, None, Some, ⊤}
use Rattle.set_parts.specs.RecordSetRecord.{RecordSet}
use Rattle.set_scratch.specs.Bodies.{values_of}

-- a set is held
abbrev pub IsHolding : Option RecordSet → Type 0
IsHolding None = ⊥
IsHolding (Some set) = ⊤

-- a set is held, and it has a value at this place, counted from 0
abbrev pub HasValue : Option RecordSet → ℕ → Type 0
HasValue None i = ⊥
HasValue (Some set) i = i < length (values_of set.body)
