-- What a line of octets asks for, or its first fault.
use Rattle.std.specs.Prelude.{◌≡◌, ◌⊎◌, ℕ, List, Result}
use Rattle.batch_json.specs.Lines.{IsJson, line_of}
use Rattle.batch_json.specs.declared.asking.Line.{Line}
use Rattle.line_faults.specs.declared.fault.LineFault.{LineFault}
use Rattle.line_faults.specs.declared.fault.LineReason.TheVariants.{NotJson}
use Rattle.line_faults.specs.declared.member.Member.TheVariants as m
use Rattle.line_reading.specs.Reading.{bad}
use Rattle.serde_json.specs.Data.{Data}

-- What a JSON value asks for, or that it is none.
abbrev pub Asks : (line : List ℕ) → Result Line LineFault → Type 0
Asks line told =
    ((value : Data) × IsJson line value × (told ≡ line_of value))
    ⊎ (((value : Data) → IsJson line value → ⊥) × (told ≡ bad NotJson m.Line))
