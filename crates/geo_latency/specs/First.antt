-- The set of which the region comes first among those that were walked.
use Rattle.std.specs.Prelude.{◌≡◌, ◌<◌, ℕ, Bool, true, false, ◌||◌, Option, Some, None, List, []}
use Rattle.std.proofs.Math.ListN.{get_or}
use Rattle.geo_latency.specs.Regions.{is_before, slowness}
use Rattle.geo_latency.specs.declared.regions.First.{First}

-- a set is one of those that are considered
abbrev pub is_considered : (healthy : List Bool) → (all : Bool) → ℕ → Bool
is_considered healthy all set = get_or healthy set false || all

-- No considered set before the i-th comes before it, and it comes before each one in front of it.
pub record ComesFirst (client : Option (List (List ℕ × ℕ))) (regions : List (List ℕ))
    (healthy : List Bool) (all : Bool) (i : ℕ) (first : First) : Type 0 where
  pub within : first.set < i
  pub slow : first.slowness ≡ slowness client (get_or regions first.set [])
  pub considered : is_considered healthy all first.set ≡ true
  pub least : (j : ℕ) → j < i → is_considered healthy all j ≡ true
      → is_before client (get_or regions j []) (get_or regions first.set []) ≡ false
  pub sooner : (j : ℕ) → j < first.set → is_considered healthy all j ≡ true
      → is_before client (get_or regions first.set []) (get_or regions j []) ≡ true

-- where there is none, none was considered
abbrev pub IsFirst : (client : Option (List (List ℕ × ℕ))) → (regions : List (List ℕ))
    → (healthy : List Bool) → (all : Bool) → (i : ℕ) → Option First → Type 0
IsFirst client regions healthy all i None =
    (j : ℕ) → j < i → is_considered healthy all j ≡ false
IsFirst client regions healthy all i (Some first) = ComesFirst client regions healthy all i first
