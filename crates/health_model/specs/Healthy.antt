-- The health of record sets (Route 53 Developer Guide, "How Amazon Route 53 chooses records when
-- health checking is configured", and Evaluate Target Health).
use Rattle.std.specs.Prelude.{ℕ, zero, suc, Bool, true, false, ◌&&◌, if◌then◌else◌, nat_eq, List, [], ◌∷◌, ◌++◌, map, Option, None, Some}
use Rattle.std.specs.List.{filter, list_any}
use Rattle.std.specs.Map.{lookup}
use Rattle.check_model.specs.declared.checks.Check.{Check}
use Rattle.zone_model.specs.RTypeRecord.{RType}
use Rattle.zone_model.specs.BodyRecord.{Body}
use Rattle.zone_model.specs.BodyRecord.TheVariants as body
use Rattle.zone_model.specs.RecordSetRecord.{RecordSet}
use Rattle.zone_model.specs.SetKeyRecord.{SetKey}
use Rattle.zone_model.specs.Sets.{key_of}
use Rattle.zone_model.specs.Zones.{group}
use Rattle.health_model.specs.Statuses.{Report, status}

-- what has health: zones by their numbers, each as its sets, and checks by theirs
pub record Watched : Type 0 where
  pub zones : List (ℕ × List RecordSet)
  pub checks : List (ℕ × Check)

abbrev pub sets_there : Option (List RecordSet) → List RecordSet
sets_there None = []
sets_there (Some sets) = sets

-- the sets of the zone of a number
abbrev pub sets_of : Watched → (zone : ℕ) → List RecordSet
sets_of watched zone = sets_there (lookup (nat_eq zone) watched.zones)

-- a set without a check is not held back by one
abbrev pub by_check : (check : ℕ → Bool) → Option ℕ → Bool
by_check check None = true
by_check check (Some id) = check id

-- nor one that isn't an alias with Evaluate Target Health by a target
abbrev pub by_target : (healthy_group : List (List ℕ) → RType → Bool) → RType → Body → Bool
by_target healthy_group rtype (body.Values ttl values) = true
by_target healthy_group rtype (body.Alias target evaluate) =
    if evaluate then healthy_group target rtype else true

-- A set is healthy where its check is, if it has one, and its target group, if that is evaluated.
abbrev pub set_value : (check : ℕ → Bool) → (healthy_group : List (List ℕ) → RType → Bool)
    → RecordSet → Bool
set_value check healthy_group set =
    by_check check set.check && by_target healthy_group set.rtype set.body

-- A group is healthy where some set of it is.
abbrev pub group_value : (healthy : RecordSet → Bool) → List RecordSet → (name : List (List ℕ))
    → RType → Bool
group_value healthy sets name rtype = list_any healthy (group sets name rtype)

-- no group is healthy
abbrev pub no_group : (name : List (List ℕ)) → RType → Bool
no_group name rtype = false

-- The health of a set of a zone, by a recursion along evaluated aliases that goes so deep; below
-- that no target counts.
abbrev pub healthy_within : (depth : ℕ) → (check : ℕ → Bool) → List RecordSet → RecordSet → Bool
healthy_within zero check sets set = set_value check no_group set
healthy_within (suc depth) check sets set =
    set_value check (group_value (healthy_within depth check sets) sets) set

-- No walk of 17 aliases starts at a set, so a depth of 16 is enough.
unfoldable pub healthy : Watched → List Report → (zone : ℕ) → RecordSet → Bool
healthy watched reports zone set =
    healthy_within 16 (status watched.checks reports) (sets_of watched zone) set

-- the healthy sets of a zone, each by the zone's number and its key
abbrev pub healthy_of : Watched → List Report → ℕ × List RecordSet → List (ℕ × SetKey)
healthy_of watched reports zone =
    map (λ (set : RecordSet). (zone.0, key_of set))
    (filter (healthy watched reports zone.0) zone.1)

abbrev pub healthy_among : Watched → List Report → List (ℕ × List RecordSet) → List (ℕ × SetKey)
healthy_among watched reports [] = []
healthy_among watched reports (zone ∷ zones) =
    healthy_of watched reports zone ++ healthy_among watched reports zones

-- the healthy sets of all zones
abbrev pub healthy_sets : Watched → List Report → List (ℕ × SetKey)
healthy_sets watched reports = healthy_among watched reports watched.zones
