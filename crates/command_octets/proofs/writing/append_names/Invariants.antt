use Rattle.std.proofs.Common.{◌≡◌, ◌++◌, take}
use Rattle.std.specs.List.{flat_map}
use Rattle.check_octets.specs.Labels.{wire}
use Rattle.command_octets.proofs.writing.append_names.Given as goal

abbrev pub invariant-loop-name : goal.invariant-loop-name
invariant-loop-name l = l.into.items ≡ l.fn.into.items ++ flat_map wire (take l.name-index l.names)
