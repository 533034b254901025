-- One pass over the valves that wait.
use Rattle.std.specs.Prelude.{◌≡◌, ◌<◌, ◌+◌, ℕ, true, false, List, [], length, reverse}
use Rattle.std.specs.List.{Contains}
use Rattle.health_valves.specs.Valves.{Net, MeetsEquation, value_in, value_of, Feeds, FedBy}
use Rattle.health_valves.specs.Walk.{EachOnce, InCone, FeedersFirst, PathsEnd}
use Rattle.health_valves.specs.declared.valves.Valves.{Valves}

-- each valve meets its equation
abbrev pub MeetAll : Net → (ℕ → ℕ) → Valves → Type 0
MeetAll net own valves = (n : ℕ) → n < net.size → MeetsEquation net own (value_of valves) n

-- each valve outside the cone of these valves does
abbrev pub MeetOutside : Net → (ℕ → ℕ) → List ℕ → Valves → Type 0
MeetOutside net own starts valves = (n : ℕ) → n < net.size → (InCone (Feeds net) starts n → ⊥)
    → MeetsEquation net own (value_of valves) n

-- the valves that wait, in the order in which they are worked out
abbrev pub waiting : Valves → List ℕ
waiting valves = reverse valves.cone.items

-- each valve that doesn't wait meets its equation
abbrev pub MeetBehind : Net → (ℕ → ℕ) → Valves → Type 0
MeetBehind net own valves = (n : ℕ) → n < net.size → (Contains (waiting valves) n → ⊥)
    → MeetsEquation net own (value_of valves) n

-- Where paths end, each valve that waits comes before all that it feeds, and these wait too.
abbrev pub IsInOrder : Valves → Type 0
IsInOrder valves = PathsEnd (FedBy valves.feeds) 64 → FeedersFirst (FedBy valves.feeds) (waiting valves)

-- only waiting valves are marked
abbrev pub HasMarked : Valves → Type 0
HasMarked valves = (y : ℕ) → value_in valves.marks.items y ≡ true → Contains (waiting valves) y

-- no valve waits or is marked
pub record IsIdle (valves : Valves) : Type 0 where
  pub empty : valves.cone.items ≡ []
  pub unmarked : (y : ℕ) → value_in valves.marks.items y ≡ false

-- the list has each valve of the cone of these valves
abbrev pub HasCone : Net → List ℕ → List ℕ → Type 0
HasCone net starts nodes = (y : ℕ) → y < net.size → InCone (Feeds net) starts y → Contains nodes y

-- valves of the cone of these valves, each once
pub record AreOfCone (net : Net) (starts walk : List ℕ) : Type 0 where
  pub once : EachOnce walk
  pub within : (y : ℕ) → Contains walk y → y < net.size
  pub above : (y : ℕ) → Contains walk y → InCone (Feeds net) starts y

-- so many evaluations, each of another valve of the cone
abbrev pub CostsCone : Net → List ℕ → (before after : ℕ) → Type 0
CostsCone net starts before after =
    (walk : List ℕ) × (AreOfCone net starts walk × (after ≡ before + length walk))

-- values turn and counts with them, and nothing else changes
abbrev pub FlipsOnly : (before after : Valves) → Type 0
FlipsOnly before after = after ≡ record before { values = after.values; counts = after.counts }
