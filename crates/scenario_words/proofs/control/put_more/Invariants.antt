use Rattle.std.proofs.Common.{◌≡◌, ◌++◌, drop}
use Rattle.std.specs.List.{flat_map}
use Rattle.scenario_words.specs.Control.{behind_comma}
use Rattle.scenario_words.proofs.control.put_more.Given as goal

abbrev pub invariant-loop-number : goal.invariant-loop-number
invariant-loop-number l = l.into.items ++ flat_map behind_comma (drop l.number-index l.numbers)
    ≡ l.fn.into.items ++ flat_map behind_comma l.numbers
