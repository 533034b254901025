use Rattle.std.proofs.Common.{◌≡◌, ℕ, take, map, length}
use Rattle.std.specs.List.{list_any}
use Rattle.check_model.specs.declared.checks.Check.{Check}
use Rattle.check_model.specs.Checks.{children_of}
use Rattle.check_model.specs.Commands.{updated_at}
use Rattle.health_check.specs.Marks.{children_given, marked}
use Rattle.health_check.proofs.nesting.mark_parents.Given as goal

abbrev pub invariant-loop-i : goal.invariant-loop-i
invariant-loop-i l = record {
  so_far : take l.i l.marks ≡ map (λ (held : ℕ × Check). list_any (marked l.list l.before)
      (children_of (updated_at l.id (children_given l.children) held).1)) (take l.i l.list);
  length : length l.marks ≡ length l.fn.marks;
}
