use Rattle.std.proofs.Common.{◌≡◌, ℕ, take, map, length}
use Rattle.check_model.specs.declared.checks.Check.{Check}
use Rattle.check_model.specs.Commands.{is_calculated}
use Rattle.health_check.proofs.nesting.mark_calculated.Given as goal

abbrev pub invariant-loop-i : goal.invariant-loop-i
invariant-loop-i l = record {
  so_far : take l.i l.marks
      ≡ map (λ (held : ℕ × Check). is_calculated held.1) (take l.i l.list);
  length : length l.marks ≡ length l.fn.marks;
}
