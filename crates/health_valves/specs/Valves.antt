-- Valves over valves: when each is open, and what feeds it.
use Rattle.std.specs.Prelude.{◌≡◌, ◌≢◌, ◌≤◌, ◌<◌, ◌+◌, ◌^◌, ◌==◌, ℕ, Bool, true, false, List, [], ◌∷◌, Some, length, slice_get, slice_index, slice_index_or, nat_le, nat_lt, if◌then◌else◌, Contains}
use Rattle.std.specs.Vec.{vec_capacity}
use Rattle.calculated_health.specs.Status.{swapped_if}
use Rattle.health_valves.specs.Walk.{PathsEnd}
pub use Rattle.valve_feeds.specs.Feeds.{BothWays, fed_by, times}
use Rattle.health_valves.specs.declared.valves.Valves.{Valves}
use Rattle.health_valves.specs.declared.valves.ValveFeeds.{ValveFeeds}

-- how many of these are open
abbrev pub count : (ℕ → Bool) → List ℕ → ℕ
count v [] = 0
count v (x ∷ xs) = if v x then count v xs + 1 else count v xs

-- a valve is open where at least so many of its feeders are; swapped_if where it is inverted
pub record Condition : Type 0 where
  pub need : ℕ
  pub inverted : Bool
  pub feeders : List ℕ

-- so many valves, and the condition of each
pub record Net : Type 0 where
  pub size : ℕ
  pub condition : ℕ → Condition

-- the value of a valve, from those of its feeders and from what is counted outside
abbrev pub equation : Net → (ℕ → ℕ) → (ℕ → Bool) → ℕ → Bool
equation net own v n = swapped_if (net.condition n).inverted (nat_le (net.condition n).need (own n + count v (net.condition n).feeders))

abbrev pub MeetsEquation : Net → (ℕ → ℕ) → (ℕ → Bool) → ℕ → Type 0
MeetsEquation net own v n = v n ≡ equation net own v n

abbrev pub Feeds : Net → ℕ → ℕ → Type 0
Feeds net x y = Contains (net.condition y).feeders x

-- No path of feeds has more valves: so each can be worked out before all that it feeds.
abbrev pub HasEnds : Net → Type 0
HasEnds net = PathsEnd (Feeds net) 64

abbrev pub value_in : List Bool → ℕ → Bool
value_in values n = slice_index_or values n false

abbrev pub value_of : Valves → ℕ → Bool
value_of valves n = value_in valves.values.items n

-- a valve that opens adds one to each count above it, and one that shuts takes one
abbrev pub CountsFit : Bool → List ℕ → List ℕ → Type 0
CountsFit true counts fed = (y : ℕ) → times y fed ≤ slice_index counts y
CountsFit false counts fed = (y : ℕ) → slice_index counts y + times y fed < 2 ^ 32

-- the counts before and after a valve with this list was worked out
abbrev pub Flipped : Bool → Bool → List ℕ → List ℕ → List ℕ → Type 0
Flipped was now before after fed = (y : ℕ)
    → slice_index after y + (if was then times y fed else 0)
    ≡ slice_index before y + (if now then times y fed else 0)

-- what the feeds say of feeding
abbrev pub FedBy : BothWays → ℕ → ℕ → Type 0
FedBy feeds x = Contains (fed_by feeds x)

pub record IsRow (condition : Condition) (row : ValveFeeds) : Type 0 where
  pub need : row.need ≡ condition.need
  pub inverted : row.inverted ≡ condition.inverted

-- rows and feeds are those of the net
pub record IsLaid (net : Net) (rows : List ValveFeeds) (feeds : BothWays) : Type 0 where
  pub size : length rows ≡ net.size
  pub valves : length feeds.fed ≡ net.size
  pub each_row : (n : ℕ) (row : ValveFeeds) → slice_get rows n ≡ Some row → IsRow (net.condition n) row
  pub reversed : (x y : ℕ) → y < net.size
      → times y (fed_by feeds x) ≡ times x (net.condition y).feeders
  pub within : (x y : ℕ) → Contains (fed_by feeds x) y → y < net.size

-- each count is that of the open feeders, with what is counted outside
pub record IsCounted (net : Net) (own : ℕ → ℕ) (v : ℕ → Bool) (counts : List ℕ) : Type 0 where
  pub size : length counts ≡ net.size
  pub small : (n : ℕ) → n < net.size → own n ≤ 2 ^ 31
  pub few : (n : ℕ) → n < net.size → length (net.condition n).feeders < 2 ^ 31
  pub each : (n : ℕ) → n < net.size → slice_index counts n ≡ own n + count v (net.condition n).feeders

-- what is counted outside is kept beside
pub record IsOwned (net : Net) (own : ℕ → ℕ) (owns : List ℕ) : Type 0 where
  pub size : length owns ≡ net.size
  pub each : (n : ℕ) → n < net.size → slice_index owns n ≡ own n

-- the valves stand for a net and for counts from outside
pub record ValvesStandFor (net : Net) (own : ℕ → ℕ) (valves : Valves) : Type 0 where
  pub laid : IsLaid net valves.rows.items valves.feeds
  pub values : length valves.values.items ≡ net.size
  pub counted : IsCounted net own (value_of valves) valves.counts.items
  pub owned : IsOwned net own valves.owns.items
  pub marks : length valves.marks.items ≡ net.size
  pub room : net.size ≤ vec_capacity valves.cone

-- they stand for some net
abbrev pub IsReady : Valves → Type 0
IsReady valves = (net : Net) × (own : ℕ → ℕ) × ValvesStandFor net own valves

abbrev pub size_of : Valves → ℕ
size_of valves = length valves.rows.items

-- one valve has another count from outside
abbrev pub with_own : ℕ → ℕ → (ℕ → ℕ) → ℕ → ℕ
with_own valve n own m = if m == valve then n else own m

-- One valve needs another number of those that feed it, and is inverted or not.
abbrev pub with_need : (valve need : ℕ) → Bool → Net → Net
with_need valve need inverted net = record {
  size = net.size;
  condition = λ n. if n == valve then record { need = need; inverted = inverted; feeders = (net.condition n).feeders } else net.condition n;
}

-- One valve has another condition.
abbrev pub with_condition : (valve : ℕ) → Condition → Net → Net
with_condition valve condition net = record {
  size = net.size;
  condition = λ n. if n == valve then condition else net.condition n;
}

-- Nothing feeds a valve, and nothing has to be open for it.
abbrev pub unfed_condition : Condition
unfed_condition = record { need = 0; inverted = false; feeders = [] }

-- All that feed a valve have to be open for it.
abbrev pub fed_condition : (feeders : List ℕ) → Condition
fed_condition feeders = record { need = length feeders; inverted = false; feeders = feeders }

-- There is one valve more, behind the others and with this condition; what is behind it is fed by nothing.
abbrev pub with_one_more : Condition → Net → Net
with_one_more condition net = record {
  size = net.size + 1;
  condition = λ n. if n == net.size then condition else (if nat_lt n net.size then net.condition n else unfed_condition);
}

-- Each valve from a number on that feeds one feeds another too.
abbrev pub IsShared : Net → (valve first : ℕ) → Type 0
IsShared net valve first = (x : ℕ) → first ≤ x → Feeds net x valve
    → (y : ℕ) × ((y ≢ valve) × ((y < net.size) × Feeds net x y))

-- One valve alone from a number on feeds a valve, and it feeds no other one.
pub record IsSoleFeeder (net : Net) (valve first feeder : ℕ) : Type 0 where
  pub late : first ≤ feeder
  pub feeds : Feeds net feeder valve
  pub only : (x : ℕ) → first ≤ x → Feeds net x valve → x ≡ feeder
  pub alone : (y : ℕ) → y < net.size → Feeds net feeder y → y ≡ valve

-- another number than this one is listed
abbrev pub HasOther : (valve : ℕ) → List ℕ → Type 0
HasOther valve listed = (y : ℕ) × ((y ≢ valve) × Contains listed y)

-- each of some valves, from a number on, feeds another one than this
abbrev pub FeedOthers : BothWays → (valve first : ℕ) → List ℕ → Type 0
FeedOthers feeds valve first feeders =
    (x : ℕ) → first ≤ x → Contains feeders x → HasOther valve (fed_by feeds x)
