-- What is told of a set without holding it.
use Rattle.std.specs.Prelude.{ℕ, List, Bool, true, false, Option, None, Some}
use Rattle.set_parts.specs.RTypeRecord.{RType}
use Rattle.set_parts.specs.BodyRecord.{Body}
use Rattle.set_parts.specs.BodyRecord.TheVariants as body
use Rattle.set_parts.specs.RecordSetRecord.{RecordSet}
use Rattle.set_scratch.specs.declared.telling.Watch.{Watch}

abbrev pub is_alias : Body → Bool
is_alias (body.Values ttl values) = false
is_alias (body.Alias target evaluate) = true

-- whether the health of a target's sets counts (Developer Guide, Evaluate Target Health); values have no target
abbrev pub evaluates : Body → Bool
evaluates (body.Values ttl values) = false
evaluates (body.Alias target evaluate) = evaluate

-- what decides the health of a set: its check, and its target group where that counts
abbrev pub watch_of : RecordSet → Watch
watch_of set = record { check = set.check; evaluates = evaluates set.body }

abbrev pub target_in : RType → Body → Option (List (List ℕ) × RType)
target_in rtype (body.Values ttl values) = None
target_in rtype (body.Alias target evaluate) = Some (target, rtype)

-- the name of an alias's target group, and its type, which is the alias's own; another set has none
abbrev pub target_of : RecordSet → Option (List (List ℕ) × RType)
target_of set = target_in set.rtype set.body
