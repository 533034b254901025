-- Alias records and where they lead (Developer Guide, Choosing between alias and non-alias records).
use Rattle.std.specs.Prelude.{◌≡◌, ℕ, ◌+◌, List, [], ◌∷◌, length, ⊤}
use Rattle.record_set.specs.declared.sets.RecordSet.{RecordSet}
use Rattle.record_set.specs.Reasons.{IsAlias}
use Rattle.zone_model.specs.Zones.{IsAmong, target_group}

-- A walk of alias links: each set is an alias of the zone, evaluated or not, and each but the first is in the target group of
-- the one before.
abbrev pub IsWalk : List RecordSet → (walk : List RecordSet) → Type 0
IsWalk sets [] = ⊤
IsWalk sets (set ∷ []) = IsAmong sets set × IsAlias set.body
IsWalk sets (set ∷ next ∷ walk) =
    IsAmong sets set × IsAlias set.body × IsAmong (target_group sets set) next × IsWalk sets (next ∷ walk)

-- a walk of so many links starts at the set
abbrev pub StartsWalk : List RecordSet → RecordSet → ℕ → Type 0
StartsWalk sets set n = (walk : List RecordSet) × IsWalk sets (set ∷ walk) × (length walk + 1 ≡ n)

-- the set is an alias of which the target group is empty
abbrev pub HasNoTarget : List RecordSet → RecordSet → Type 0
HasNoTarget sets set = IsAlias set.body × (target_group sets set ≡ [])

-- a walk of 17 links starts at the set (own)
abbrev pub IsTooDeep : List RecordSet → RecordSet → Type 0
IsTooDeep sets set = StartsWalk sets set 17
