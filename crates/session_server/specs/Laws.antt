-- Reading a line, and what it asks for.
use Rattle.std.specs.Prelude.{◌≢◌, ℕ, List, Result, Err}
use Rattle.line_bounds.specs.LineRecord.{Line}
use Rattle.line_bounds.specs.Laws.{ReadsJson, ReadsOthers}
use Rattle.line_faults.specs.declared.fault.LineFault.{LineFault}
use Rattle.line_faults.specs.declared.fault.LineFault.TheVariants.{OutOfMemory}
use Rattle.list_sending.specs.Asking.{Asks}

-- What `read_line` promises of octets is what they ask for, or their first fault, but for want of
-- memory.
abbrev pub ReadLinesAsk : Type 0
ReadLinesAsk = (octets : List ℕ) (told : Result Line LineFault)
    → ReadsJson octets told → ReadsOthers octets told
    → told ≢ Err OutOfMemory → Asks octets told
