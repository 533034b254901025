-- Faults of control lines.
use Rattle.std.specs.Prelude.{ℕ, Some}
use Rattle.line_faults.specs.declared.fault.LineFault.{LineFault}
use Rattle.line_faults.specs.declared.fault.LineFault.TheVariants.{BadLine, Unsupported, OutOfMemory}

-- the same fault inside the change of this index
abbrev pub told_in : ℕ → LineFault → LineFault
told_in k (BadLine reason m change) = BadLine reason m (Some k)
told_in k (Unsupported m change) = Unsupported m (Some k)
told_in k OutOfMemory = OutOfMemory
