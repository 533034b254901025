use Rattle.std.proofs.Common.{◌≡◌, take}
use Rattle.zone_rules.specs.Lent.{sets_lent}
use Rattle.change_batch.proofs.lent.copy_all.Given as goal

abbrev pub invariant-loop-place : goal.invariant-loop-place
invariant-loop-place l = l.copies.items ≡ take l.place (sets_lent l.sets)
