-- The considered sets of a group (Route 53 Developer Guide, "How Amazon Route 53 chooses records when health checking is
-- configured"). A set is named by its place in the group, from 0 on.
use Rattle.std.specs.Prelude.{◌≡◌, ◌≢◌, ◌<◌, ◌⊎◌, ℕ, ◌+◌, Bool, true, List, [], ◌∷◌, length, map, slice_get, Some, if◌then◌else◌}
use Rattle.std.specs.List.{list_any}

-- whether some set is healthy
abbrev pub some_healthy : List Bool → Bool
some_healthy healthy = list_any (λ h. h) healthy

-- Which sets are considered: the healthy ones, or all where none is healthy (own).
abbrev pub considered : List Bool → List Bool
considered healthy = if some_healthy healthy then healthy else map (λ h. true) healthy

-- the places at which a list says true, where its first element has this place
abbrev pub places_from : ℕ → List Bool → List ℕ
places_from at [] = []
places_from at (h ∷ rest) = if h then at ∷ places_from (at + 1) rest else places_from (at + 1) rest

-- the considered sets, in the group's order
abbrev pub places : List Bool → List ℕ
places healthy = places_from 0 (considered healthy)

-- A set is considered: it is healthy, or it is one of a group of which none is. The law on `places` says that these are
-- the same sets.
abbrev pub IsConsidered : List Bool → ℕ → Type 0
IsConsidered healthy k = (slice_get healthy k ≡ Some true)
    ⊎ ((k < length healthy) × ((j : ℕ) → slice_get healthy j ≢ Some true))
