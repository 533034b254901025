use Rattle.std.proofs.Common.{◌≡◌, ◌*◌, ◌≤◌, ◌++◌, length, map}
use Rattle.std.specs.List.{sum_by}
use Rattle.set_lines.specs.declared.values.Counted.{Counted}
use Rattle.set_lines.proofs.values.together.Given as goal

-- what was taken so far stands in the values and in the sum
abbrev pub invariant-loop-counted : goal.invariant-loop-counted
invariant-loop-counted l = record {
  values : l.values.items ≡ map (λ (c : Counted). c.datum) l.yielded;
  sum : l.sum ≡ sum_by (λ (c : Counted). c.characters) l.yielded;
  all : l.yielded ++ l.counted-iterator.rest.items ≡ l.fn.list.items;
  small : l.sum ≤ 65535 * length l.yielded;
}
