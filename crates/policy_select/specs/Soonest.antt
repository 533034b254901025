-- The set of a latency group of which the region is less slow than those of all others.
use Rattle.std.specs.Prelude.{◌≡◌, ◌≢◌, ◌<◌, ℕ, Bool, true, not, Option, List, length, map}
use Rattle.std.specs.Option.{unwrap_or}
use Rattle.std.proofs.Math.ListN.{get_or}
use Rattle.answer_model.specs.Policies.{region_of}
use Rattle.considered_sets.specs.Considered.{some_healthy}
use Rattle.geo_latency.specs.First.{is_considered}
use Rattle.geo_latency.specs.Regions.{slowness}
use Rattle.zone_table.specs.RecordSetRecord.{RecordSet}

-- how slow the regions of sets are for a client, where that of the first one stands for each that has none
abbrev pub slow_each : Option (List (List ℕ × ℕ)) → (first : List ℕ) → List RecordSet → List ℕ
slow_each client first sets =
    map (λ (set : RecordSet). slowness client (unwrap_or (region_of set.routing) first)) sets

-- Another set than the one at a place is slower than that, where it is considered.
abbrev pub IsSlower : (slow : List ℕ) (healthy : List Bool) (all : Bool) (place other : ℕ) → Type 0
IsSlower slow healthy all place other = other ≢ place → is_considered healthy all other ≡ true
    → get_or slow place 0 < get_or slow other 0

-- So are all of the first sets.
abbrev pub AreSlower : (slow : List ℕ) (healthy : List Bool) (all : Bool) (place count : ℕ) → Type 0
AreSlower slow healthy all place count =
    (other : ℕ) → other < count → IsSlower slow healthy all place other

-- Of the considered sets, of which the regions are so slow, the others are slower than the one at a place.
pub record IsSoonest (slow : List ℕ) (healthy : List Bool) (place : ℕ) : Type 0 where
  pub within : place < length slow
  pub considered : is_considered healthy (not (some_healthy healthy)) place ≡ true
  pub others : AreSlower slow healthy (not (some_healthy healthy)) place (length slow)
