use Rattle.policy_select.proofs.GroupSizes.{FewAtFirst}
use Rattle.policy_select.specs.Groups.{sets_in_zone}
use Rattle.zone_lookup.proofs.served.has_few.Given as goal

abbrev pub invariant-loop-i : goal.invariant-loop-i
invariant-loop-i l = FewAtFirst (sets_in_zone l.zones.zones l.zone) l.i
