use Rattle.routing.specs.declared.policies.Place.{Place}
use Rattle.policy_select.specs.Groups.{sets_in}
use Rattle.policy_select.specs.Nearby.{AreForOthers}
use Rattle.policy_select.proofs.lists.walk_to_near.Given as goal

abbrev pub invariant-loop-i : goal.invariant-loop-i
invariant-loop-i l = (first : Place) → AreForOthers l.country first (sets_in l.zones.zones l.group) l.fn.from l.i
