-- The choice among the sets of a failover group (Route 53 Developer Guide, "Active-passive
-- failover"). A set is named by its place in the group, from 0 on.
use Rattle.std.specs.Prelude.{ℕ, Bool, true, false, List, ◌++◌, map, slice_index}
use Rattle.considered_sets.specs.Considered.{places_from}
use Rattle.considered_sets.specs.Healthy.{healthy_of}
use Rattle.routing.specs.declared.policies.Role.{Role}
use Rattle.routing.specs.declared.policies.Role.TheVariants.{Primary, Secondary}

-- whether two roles are one
abbrev pub is_role : Role → Role → Bool
is_role Primary Primary = true
is_role Primary Secondary = false
is_role Secondary Primary = false
is_role Secondary Secondary = true

-- the sets of a role
abbrev pub sets_of : Role → List Role → List ℕ
sets_of role roles = places_from 0 (map (is_role role) roles)

-- The sets in the order in which they are asked: the primary, then the secondary.
abbrev pub in_order : List Role → List ℕ
in_order roles = sets_of Primary roles ++ sets_of Secondary roles

-- The first of them that is healthy; where none is, the first of them.
abbrev pub chosen : List Role → (healthy : List Bool) → ℕ
chosen roles healthy = slice_index (healthy_of healthy (in_order roles) ++ in_order roles) 0
