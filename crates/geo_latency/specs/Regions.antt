-- The choice among the sets of a latency group (Route 53 Developer Guide, "Latency-based routing").
-- A set is named by its place in the group, from 0 on.
use Rattle.std.specs.Prelude.{ℕ, ◌^◌, Bool, not, Option, Some, None, List, [], ◌∷◌, if◌then◌else◌}
use Rattle.std.specs.Prelude.{slice_index}
use Rattle.std.specs.List.{filter, list_any}
use Rattle.std.specs.Str.{bytes_eq}
use Rattle.std.specs.Ordering.{is_lt, nat_cmp}
use Rattle.std.specs.Cmp.Lexicographic.{slice_cmp}
use Rattle.std.proofs.Math.ListN.{get_or}
use Rattle.considered_sets.specs.Considered.{places}

-- the latency that a client's row tells of a region
abbrev pub latency_of : List (List ℕ × ℕ) → (region : List ℕ) → Option ℕ
latency_of [] region = None
latency_of (row ∷ rows) region =
    if bytes_eq row.0 region then Some row.1 else latency_of rows region

-- A region that the row doesn't tell is slower than any that it tells, and so is each region where
-- the client has no row.
abbrev pub slowness_of : Option ℕ → ℕ
slowness_of None = 2 ^ 32
slowness_of (Some latency) = latency

abbrev pub slowness : Option (List (List ℕ × ℕ)) → (region : List ℕ) → ℕ
slowness None region = 2 ^ 32
slowness (Some rows) region = slowness_of (latency_of rows region)

-- A region comes before another: it has less latency, or as much and the smaller name by bytes.
abbrev pub is_before : Option (List (List ℕ × ℕ)) → (region other : List ℕ) → Bool
is_before client region other =
    is_lt (slice_cmp nat_cmp (slowness client region ∷ region) (slowness client other ∷ other))

-- Of some sets those of which the region comes first: before it comes none.
abbrev pub first_of : Option (List (List ℕ × ℕ)) → (regions : List (List ℕ)) → List ℕ → List ℕ
first_of client regions sets = filter (λ set. not (list_any (λ other.
    is_before client (get_or regions other []) (get_or regions set [])) sets)) sets

-- The chosen set: the one of the considered sets of which the region comes first.
abbrev pub chosen : (regions : List (List ℕ)) → (healthy : List Bool)
    → (client : Option (List (List ℕ × ℕ))) → ℕ
chosen regions healthy client = slice_index (first_of client regions (places healthy)) 0
