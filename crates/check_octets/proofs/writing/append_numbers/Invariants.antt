use Rattle.std.proofs.Common.{◌≡◌, ◌++◌, take}
use Rattle.std.specs.List.{flat_map}
use Rattle.octets.specs.Numbers.{four_octets}
use Rattle.check_octets.proofs.writing.append_numbers.Given as goal

abbrev pub invariant-loop-number : goal.invariant-loop-number
invariant-loop-number l =
    l.into.items ≡ l.fn.into.items ++ flat_map four_octets (take l.number-index l.numbers)
