use Rattle.std.proofs.Common.{ℕ, ◌<◌}
use Rattle.zone_rules.specs.Groups.{IsConflicted}
use Rattle.zone_rules.specs.Lent.{sets_lent}
use Rattle.zone_rules.proofs.cname.first_conflict.Given as goal

abbrev pub invariant-loop-i : goal.invariant-loop-i
invariant-loop-i l = (j : ℕ) → j < l.i → IsConflicted (sets_lent l.sets) l.apex j → ⊥
