use Rattle.std.proofs.Common.{◌≡◌, ◌≤◌, drop}
use Rattle.value_text.specs.Numbers.{number_from}
use Rattle.value_text.proofs.numbers.number.Given as goal

abbrev pub invariant-loop-b : goal.invariant-loop-b
invariant-loop-b l = record {
  small : l.value ≤ l.fn.most;
  same : number_from l.value (drop l.b-index l.field) ≡ number_from 0 l.field;
}
