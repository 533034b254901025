use Rattle.std.proofs.Common.{◌≡◌, Bool, drop}
use Rattle.std.specs.List.{list_any}
use Rattle.health_check.proofs.nesting.has_mark.Given as goal

abbrev pub invariant-loop-mark : goal.invariant-loop-mark
invariant-loop-mark l =
    list_any (λ (mark : Bool). mark) (drop l.mark-index l.marks)
    ≡ list_any (λ (mark : Bool). mark) l.marks
