-- What reading a command gives.
use Rattle.std.specs.Prelude.{◌≡◌, ℕ, ◌≤◌, Result, Ok, Err, ⊤}
use Rattle.set_reading.specs.declared.faults.ReadFault.{ReadFault}
use Rattle.set_reading.specs.declared.faults.ReadFault.TheVariants as fault
use Rattle.command_octets.specs.declared.commands.Command.{Command}

-- What a call answered is what reading says, unless memory ran out.
abbrev pub GivesCommand : Result Command ReadFault → Result Command ℕ → Type 0
GivesCommand (Ok command) read = read ≡ Ok command
GivesCommand (Err (fault.Bad place)) read = read ≡ Err place
GivesCommand (Err fault.OutOfMemory) read = ⊤

-- A fault stands at one of the octets, or behind the last.
abbrev pub IsInside : ℕ → Result Command ReadFault → Type 0
IsInside size (Ok command) = ⊤
IsInside size (Err (fault.Bad place)) = place ≤ size
IsInside size (Err fault.OutOfMemory) = ⊤
