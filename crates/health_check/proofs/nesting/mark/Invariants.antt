use Rattle.std.proofs.Common.{◌≡◌, take, length}
use Rattle.health_check.specs.Marks.{marks_of, with_children}
use Rattle.health_check.proofs.nesting.mark.Given as goal

abbrev pub invariant-loop-step : goal.invariant-loop-step
invariant-loop-step l = record {
  marks : take (length l.list) l.marks
      ≡ marks_of l._step (with_children l.id l.children l.list) l.list;
  length : length l.marks ≡ 200;
}
