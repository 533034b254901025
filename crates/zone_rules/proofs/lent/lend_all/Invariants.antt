use Rattle.std.proofs.Common.{◌≡◌, take}
use Rattle.zone_rules.specs.Lent.{sets_lent}
use Rattle.zone_rules.proofs.lent.lend_all.Given as goal

abbrev pub invariant-loop-set : goal.invariant-loop-set
invariant-loop-set l = sets_lent l.lent.items ≡ take l.set-index l.sets
