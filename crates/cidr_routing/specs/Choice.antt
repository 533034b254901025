-- The choice among the sets of a group by the location of the client's address block (Route 53
-- Developer Guide, "IP-based routing"). A set is named by its place in the group, from 0 on.
use Rattle.std.specs.Prelude.{ℕ, Bool, Option, Some, None, List, ◌++◌, map, slice_get}
use Rattle.std.specs.Str.{bytes_eq}
use Rattle.considered_sets.specs.Considered.{places_from}
use Rattle.considered_sets.specs.Healthy.{healthy_of}
use Rattle.cidr_routing.specs.Idents.{star}

-- the sets of a location
abbrev pub sets_of : (location : List ℕ) → (locations : List (List ℕ)) → List ℕ
sets_of location locations = places_from 0 (map (bytes_eq location) locations)

-- The sets that apply: the one of the client's location, and behind it the one of `*`.
abbrev pub in_order : (client : Option (List ℕ)) → (locations : List (List ℕ)) → List ℕ
in_order None locations = sets_of star locations
in_order (Some client) locations = sets_of client locations ++ sets_of star locations

-- The first of them that is healthy; where none is, the first of them; none where none applies
-- (own).
abbrev pub chosen : (locations : List (List ℕ)) → (healthy : List Bool)
    → (client : Option (List ℕ)) → Option ℕ
chosen locations healthy client =
    slice_get (healthy_of healthy (in_order client locations) ++ in_order client locations) 0
